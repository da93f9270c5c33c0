-- The triplets of a dense matrix.
use Rattle.std.specs.Prelude.{◌≡◌, ◌≢◌, ◌↔◌, ℕ, Bool, true, not, List, map}
use Rattle.std.specs.List.{flat_map}
use Rattle.sparse_algebra.specs.Algebra.{CommRing}
use Rattle.sparse_algebra.specs.Plain.{Plain, below}
use Rattle.sparse_coo_dense.specs.Dense.{Dense, value_at}

module _ {T : Type 0} where
  -- the triplets (i, k, value i k) of n lanes of m values, lane by lane
  abbrev pub full_lanes : ℕ → ℕ → (ℕ → ℕ → T) → List (ℕ × ℕ × T)
  full_lanes n m value = flat_map (λ i. map {B = ℕ × ℕ × T} (λ k. (i, k, value i k)) (below m))
      (below n)

  -- the triplets of all values of a dense matrix, row by row (z is the value outside the shape)
  abbrev pub row_triplets : T → Dense T → List (ℕ × ℕ × T)
  row_triplets z d = full_lanes d.nrows d.ncols (λ i j. value_at d i j z)

  -- the same, column by column
  abbrev pub column_triplets : T → Dense T → List (ℕ × ℕ × T)
  column_triplets z d = flat_map (λ j. map {B = ℕ × ℕ × T} (λ i. (i, j, value_at d i j z))
      (below d.nrows)) (below d.ncols)

  -- whether the value of a triplet is not `==` to z
  abbrev pub differs_from : (T → T → Bool) → T → ℕ × ℕ × T → Bool
  differs_from E z t = not (E t.2 z)

-- b has the places of a whose value is not zero, with their values
pub record IsNonzeroPart {R : CommRing} (a b : Plain R) : Type 0 where
  pub rows : b.rows ≡ a.rows
  pub cols : b.cols ≡ a.cols
  pub has : (i j : ℕ) → (b.has i j ≡ true) ↔ ((a.has i j ≡ true) × (a.value i j ≢ R.zero))
  pub value : (i j : ℕ) → b.value i j ≡ a.value i j
