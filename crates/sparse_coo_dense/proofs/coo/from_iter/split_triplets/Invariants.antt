use Rattle.std.proofs.Common.{◌≡◌, map}
use Rattle.sparse_coo_dense.proofs.coo.from_iter.split_triplets.Given as goal

abbrev pub invariant-loop-row : goal.invariant-loop-row
invariant-loop-row g l = record {
  rows : l.row_indices.items ≡ map (λ t. t.0) l.yielded;
  cols : l.col_indices.items ≡ map (λ t. t.1) l.yielded;
  values : l.values.items ≡ map (λ t. t.2) l.yielded;
}
