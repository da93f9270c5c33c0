use Rattle.std.proofs.Common.{ap, sym, ◌∙◌}
use Rattle.sparse_algebra.specs.Plain.{plain_sum}
use Rattle.sparse_compressed.specs.PlainOfLanes.{plain_of_cols}
use Rattle.sparse_laws.proofs.operations.columns.difference_as_sum.Goals as goal

pub returns : goal.returns
returns g c =
    let R = g.T.Ring.ring in
    c.in_ok-difference.ensures ∙ ap (plain_sum R (plain_of_cols R g.T.Ring.value c.args.a.now))
    (sym c.in_ok-negative.ensures) ∙ sym c.in_ok-sum.ensures
