-- The number of products that the columns of a factor subtract fits in 128 bits.
use Rattle.std.proofs.Common.{◌≡◌, ℕ, ◌+◌, ◌*◌, ◌≤◌, ◌<◌, ◌^◌, Bool, true, false, List, [], ◌∷◌}
use Rattle.std.proofs.Common.{suc, length, refl, arith}
use Rattle.std.proofs.Math.Nat.{mul-le-mul_left, div-le_of_le-mul}
use Rattle.std.specs.Prelude.{◌==◌}
use Rattle.sparse_pattern.specs.Raw.{Raw, IsValidLane, start_of, end_of, lane_of}
use Rattle.sparse_pattern.proofs.PatternLanes.{length-lane}
use Rattle.mtxkit_patterns.specs.Columns.{below_diagonal, rows_below, pairs_of, products_below}

products_suc : (l : Raw) (n m : ℕ) → m ≡ suc n
    → products_below l m ≡ products_below l n + pairs_of (length (rows_below l n))
products_suc l n m e = rw e refl

pub products_more : (l : Raw) (n : ℕ)
    → products_below l (n + 1) ≡ products_below l n + pairs_of (length (rows_below l n))
products_more l n = products_suc l n (n + 1) (omega arith)

few_below : (col : ℕ) (rows : List ℕ) → length (below_diagonal col rows) ≤ length rows
few_below col [] = omega arith
few_below col (row ∷ rows) = by (row == col) refl
  where
    by : (t : Bool) → (row == col) ≡ t → length (below_diagonal col (row ∷ rows)) ≤ suc (length rows)
    by true e = rw e (omega arith)
    by false e = rw e (omega arith)

-- n (n + 1) / 2 is at most n times a bound of n
few_pairs : (n : ℕ) → n < 2 ^ 60 → pairs_of n ≤ n * 2 ^ 60
few_pairs n lt =
    let all : n * (n + 1) ≤ n * 2 ^ 60 = mul-le-mul_left n (omega (arith, lt)) in
    div-le_of_le-mul 2 (omega (arith, all))

module _ (l : Raw) (j : ℕ) (valid : IsValidLane l j) where
  -- the products of one more column
  pub few_more : (products : ℕ) → products ≤ start_of l j * 2 ^ 60 → length (rows_below l j) < 2 ^ 60
      → products + pairs_of (length (rows_below l j)) ≤ end_of l j * 2 ^ 60
  few_more products few lt =
      let pairs = few_pairs (length (rows_below l j)) lt in
      let rows = few_below j (lane_of l j) in
      let lane = length-lane l j valid in
      omega (arith, few, pairs, rows, lane, valid.ordered)
