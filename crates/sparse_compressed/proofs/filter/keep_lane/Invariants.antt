use Rattle.std.proofs.Common.{take}
use Rattle.std.specs.List.{zip}
use Rattle.sparse_compressed.specs.Filter.{Answers}
use Rattle.sparse_compressed.specs.InnerFilter.{IsGrown}
use Rattle.sparse_compressed.proofs.filter.keep_lane.Given as goal

abbrev pub invariant-loop-at : goal.invariant-loop-at
invariant-loop-at g l =
    IsGrown (λ p b. Answers g.P.Fn l.predicate (l.lane, p.0, p.1) b)
    (zip (take l.at l.indices) (take l.at l.values)) l.initial.kept_indices.items
    l.initial.kept_values.items l.kept_indices.items l.kept_values.items
