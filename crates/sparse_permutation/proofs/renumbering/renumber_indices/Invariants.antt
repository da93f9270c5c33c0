use Rattle.std.proofs.Common.{◌≡◌, ◌++◌, map, get_or, take, drop}
use Rattle.sparse_permutation.proofs.renumbering.renumber_indices.Given as goal

abbrev pub invariant-loop-index : goal.invariant-loop-index
invariant-loop-index l = l.index-items
    ≡ map (λ i. get_or l.numbers i 0) (take l.index-index l.fn.indices.items)
    ++ drop l.index-index l.fn.indices.items
