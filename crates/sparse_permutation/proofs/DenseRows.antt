-- Dense matrices with permuted rows, as plain matrices, and undone.
use Rattle.std.proofs.Common.{◌≡◌, ℕ, ◌+◌, ◌*◌, ◌<◌, inl, inr, ◌&&◌, List, length}
use Rattle.std.proofs.Common.{map, get_or, ap, sym, ◌∙◌, refl, arith}
use Rattle.std.specs.Prelude.{nat_lt}
use Rattle.std.proofs.lemmas.List.{get_or-map}
use Rattle.std.proofs.lemmas.Nat.{mul-add-lt}
use Rattle.sparse_algebra.specs.Algebra.{CommRing}
use Rattle.sparse_algebra.specs.Sums.{where_true}
use Rattle.sparse_algebra.proofs.Cases.{true_or_false}
use Rattle.sparse_algebra.proofs.PlainLemmas.{same_plain}
use Rattle.sparse_coo_dense.specs.Dense.{Dense, dense_of, value_at, HasValues}
use Rattle.sparse_coo_dense.specs.DensePlain.{plain_of_dense, is_inside}
use Rattle.sparse_permutation.specs.Permutations.{IsOrder, IsInverse}
use Rattle.sparse_permutation.specs.PermutedPlain.{plain_rows_permuted}
use Rattle.sparse_permutation.specs.PermutedPatterns.{HasPermutedRows}
use Rattle.sparse_permutation.proofs.Orders.{order_below}
use Rattle.sparse_permutation.proofs.PermutedPlain.{is_below, below_is}

-- rows that are permuted, and then permuted by the inverse, are the rows themselves
pub dense_undone : {T : Type 0} {p q : List ℕ} → IsInverse p q → IsOrder q → (a d e : Dense T)
    → a.nrows ≡ length p → HasPermutedRows p a d → HasPermutedRows q d e
    → HasValues a.nrows a.ncols (λ i j z. value_at a i j z) e
dense_undone {T} {p} {q} inverse order a d e rows first second = record {
  rows = second.rows ∙ first.rows;
  cols = second.cols ∙ first.cols;
  count = second.count ∙ ap (λ n. n * d.ncols) first.rows ∙ ap (λ n. a.nrows * n) first.cols;
  values = λ i j z row col.
      let inside : i < length q = omega (arith, rows, inverse.count) in
      let at : get_or q i 0 < a.nrows =
      omega (arith, rows, inverse.count, order_below order i inside) in
      second.values i j z (omega (arith, first.rows)) (omega (arith, first.cols))
      ∙ first.values (get_or q i 0) j z at col
      ∙ ap (λ k. value_at a k j z) (inverse.right i (omega (arith, rows)));
}

module _ (R : CommRing) {T : Type 0} (f : T → R.Carrier) (z : T) where
  -- the value of the ring that is stored within the shape
  stored : (d : Dense T) → length d.values ≡ d.nrows * d.ncols → (i j : ℕ) → i < d.nrows
      → j < d.ncols
      → value_at (dense_of d.nrows d.ncols (map f d.values)) i j R.zero ≡ f (value_at d i j z)
  stored d full i j row col = get_or-map f d.values (j * d.nrows + i) z R.zero
      (rw full (mul-add-lt j d.nrows i d.ncols col row))

  module _ {p : List ℕ} (order : IsOrder p) (a d : Dense T) (rows : a.nrows ≡ length p)
      (full : length a.values ≡ a.nrows * a.ncols) (moved : HasPermutedRows p a d) where
    full_d : length d.values ≡ d.nrows * d.ncols
    full_d = moved.count ∙ ap (λ n. n * a.ncols) (sym moved.rows)
        ∙ ap (λ n. d.nrows * n) (sym moved.cols)

    row_below : (i : ℕ) → i < a.nrows → get_or p i 0 < a.nrows
    row_below i less = omega (arith, rows, order_below order i (omega (arith, rows)))

    inside_d : (i j : ℕ) → is_inside d i j ≡ (nat_lt i a.nrows && nat_lt j a.ncols)
    inside_d i j = ap (λ n. nat_lt i n && nat_lt j d.ncols) moved.rows
        ∙ ap (λ n. nat_lt i a.nrows && nat_lt j n) moved.cols

    places : (i j : ℕ) → is_inside d i j ≡ (nat_lt i a.nrows && is_inside a (get_or p i 0) j)
    places i j = inside_d i j ∙ elim (true_or_false (nat_lt i a.nrows)) [
      | inl inside ↦
          let below = is_below (get_or p i 0) a.nrows (row_below i (below_is i a.nrows inside)) in
          rw (inside, below) refl
      | inr outside ↦ rw outside refl
    ]

    value_of : (i j : ℕ) → i < a.nrows → j < a.ncols
        → value_at (dense_of d.nrows d.ncols (map f d.values)) i j R.zero
        ≡ value_at (dense_of a.nrows a.ncols (map f a.values)) (get_or p i 0) j R.zero
    value_of i j row col =
        stored d full_d i j (omega (arith, moved.rows)) (omega (arith, moved.cols))
        ∙ ap f (moved.values i j z row col)
        ∙ sym (stored a full (get_or p i 0) j (row_below i row) col)

    values : (i j : ℕ)
        → where_true R (is_inside d i j)
        (value_at (dense_of d.nrows d.ncols (map f d.values)) i j R.zero)
        ≡ where_true R (nat_lt i a.nrows) (where_true R (is_inside a (get_or p i 0) j)
        (value_at (dense_of a.nrows a.ncols (map f a.values)) (get_or p i 0) j R.zero))
    values i j = ap (λ b. where_true R b
        (value_at (dense_of d.nrows d.ncols (map f d.values)) i j R.zero)) (inside_d i j)
        ∙ elim (true_or_false (nat_lt i a.nrows)) [
          | inl inside ↦
              let row = below_is i a.nrows inside in
              let below = is_below (get_or p i 0) a.nrows (row_below i row) in
              elim (true_or_false (nat_lt j a.ncols)) [
                | inl within ↦
                    rw (inside, below, within) (value_of i j row (below_is j a.ncols within))
                | inr beyond ↦ rw (inside, below, beyond) refl
              ]
          | inr outside ↦ rw outside refl
        ]

    pub plain_of_permuted_rows : plain_of_dense R f d ≡ plain_rows_permuted R p (plain_of_dense R f a)
    plain_of_permuted_rows = same_plain (plain_of_dense R f d)
        (plain_rows_permuted R p (plain_of_dense R f a)) moved.rows moved.cols places values
