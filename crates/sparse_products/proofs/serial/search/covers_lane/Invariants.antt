use Rattle.std.proofs.Common.{ℕ, take, Contains}
use Rattle.sparse_pattern.specs.Raw.{IsEntry}
use Rattle.sparse_products.proofs.serial.search.covers_lane.Given as goal

abbrev pub invariant-loop-j : goal.invariant-loop-j
invariant-loop-j l = (j : ℕ) → Contains (take l.j-index l.indices) j → IsEntry l.pattern l.i j
