use Rattle.std.proofs.Common.{◌∙◌}
use Rattle.std.specs.Int.{w64}
use Rattle.nalgebra_sparse.specs.Wrapping.{wrapping_ring}
use Rattle.nalgebra_sparse.specs.WrappingValues.{w64_value}
use Rattle.examples_theorems.proofs.WalkSteps.{identity-diagonal}
use Rattle.examples_theorems.proofs.reach.diagonal.Goals as goal

pub returns-clause-diagonal : goal.returns-clause-diagonal
returns-clause-diagonal c =
    let found = c.in_ok-identity in
    identity-diagonal (wrapping_ring w64) w64_value found.identity c.in_ok-copy.copy c.args.n
    (c.in_ok-copy.ensures ∙ c.pattern.ensures.pattern) found.ensures.plain
    (c.stands_law.ensures.rows found.identity found.ensures.sound)
