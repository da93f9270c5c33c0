use Rattle.std.proofs.Common.{◌≡◌, ◌*◌, ◌≤◌, ◌^◌}
use Rattle.sparse_pattern.specs.Raw.{start_of}
use Rattle.mtxkit_patterns.specs.Columns.{products_below}
use Rattle.mtxkit_patterns.proofs.columns.multiplications.Given as goal

abbrev pub invariant-loop-col : goal.invariant-loop-col
invariant-loop-col l = record {
  products : l.products ≡ products_below l.factor l.col;
  few : l.products ≤ start_of l.factor l.col * 2 ^ 60;
}
