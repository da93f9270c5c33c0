-- The value of a lane at an index.
use Rattle.std.specs.Prelude.{ℕ, List, nat_eq, zip}
use Rattle.sparse_algebra.specs.Algebra.{CommRing}
use Rattle.sparse_algebra.specs.Sums.{sum_by, where_true}

-- the sum of the values at the index j in a lane with these indices and values: the value at j if
-- the indices are distinct
abbrev pub lane_value : (R : CommRing) {T : Type 0} → (T → R.Carrier) → List ℕ → List T → ℕ
    → R.Carrier
lane_value R f indices values j = sum_by R (λ t. where_true R (nat_eq t.0 j) (f t.1))
    (zip indices values)
