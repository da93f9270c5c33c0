use Rattle.std.proofs.Common.{rules}
use Rattle.std.specs.Prelude.{nat_lt}
use Rattle.sparse_factor.proofs.Results.{ok_both}
use Rattle.sparse_factor.proofs.ordered.whole.below_diagonal.Goals as goal

pub returns-clause-kept : goal.returns-clause-kept
returns-clause-kept g c = search rules

pub returns-clause-plain : goal.returns-clause-plain
returns-clause-plain g c = ok_both _ _ _ _
    (λ m shape kept. c.kept_cols_law.ensures (λ i j. nat_lt j i) c.args.a.now m shape kept)
    c.filter.ensures.same_shape (returns-clause-kept g c)
