use Rattle.std.proofs.Common.{ℕ, ◌<◌}
use Rattle.sparse_pattern.specs.Raw.{lane_of, IsEntry}
use Rattle.sparse_products.specs.InnerProducts.{IsInLanes}
use Rattle.sparse_products.proofs.serial.search.covers_product.Given as goal

abbrev pub invariant-loop-i : goal.invariant-loop-i
invariant-loop-i l = (i : ℕ) → i < l.i → (j : ℕ) → IsInLanes l.b (lane_of l.a i) j
    → IsEntry l.pattern i j
