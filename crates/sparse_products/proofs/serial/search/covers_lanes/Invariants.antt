use Rattle.std.proofs.Common.{ℕ, take, Contains}
use Rattle.sparse_pattern.specs.Raw.{IsEntry}
use Rattle.sparse_products.proofs.serial.search.covers_lanes.Given as goal

abbrev pub invariant-loop-k : goal.invariant-loop-k
invariant-loop-k l = (k : ℕ) → Contains (take l.k-index l.lanes) k → (j : ℕ) → IsEntry l.b k j
    → IsEntry l.pattern l.i j
