-- With as many pivots as columns, a x = a y only if x = y.
use Rattle.std.proofs.Common.{◌≡◌, ℕ, ◌<◌, ◌-◌, inl, inr, List, get_or, ap, sym, ◌∙◌}
use Rattle.std.proofs.Common.{refl, arith}
use Rattle.std.specs.Prelude.{nat_lt, ◌&&◌}
use Rattle.sparse_algebra.proofs.Cases.{lt_or_gt}
use Rattle.sparse_algebra.specs.Algebra.{CommRing}
use Rattle.sparse_algebra.specs.Sums.{sum_below}
use Rattle.sparse_algebra.specs.Plain.{Plain, plain_product}
use Rattle.sparse_algebra.proofs.SumLemmas.{where_yes, sum_below-same, product_assoc}
use Rattle.sparse_permutation.proofs.Orders.{order_below, order_occurs}
use Rattle.sparse_permutation.proofs.PermutedPlain.{both_below}
use Rattle.sparse_permutation.proofs.Reindexing.{sum_below-permuted}
use Rattle.sparse_dense_ops.specs.Solutions.{HasSameValues}
use Rattle.sparse_lu_laws.specs.Lu.{IsLu}
use Rattle.sparse_lu_laws.proofs.Sums.{difference_null, same_from_difference}
use Rattle.sparse_lu_laws.proofs.Triangles.{triangle_null}

module _ (R : CommRing) {T : Type 0} (f : T → R.Carrier) {a l u : Plain R} {p q : List ℕ} {r : ℕ}
    (lu : IsLu R f a l u p q r) where
  -- the value of L U at (i, j) is that of a at (p i, q j)
  pub lu_at : (i j : ℕ) → i < a.rows → j < a.cols
      → sum_below R r (λ k. R.mul (l.value i k) (u.value k j))
      ≡ a.value (get_or p i 0) (get_or q j 0)
  lu_at i j row col = ap (λ n. sum_below R n (λ k. R.mul (l.value i k) (u.value k j)))
      (sym lu.factors.lower_cols) ∙ lu.equation i j row col
      ∙ where_yes R (nat_lt i a.rows && nat_lt j a.cols) _ (both_below i a.rows j a.cols row col)

  pub unit_at : (k : ℕ) → k < r → (e : R.Carrier) × (R.mul (l.value k k) e ≡ R.one)
  unit_at k less = let inverse = lu.factors.units k less in (f inverse.0, inverse.1)

  module _ (full : r ≡ a.cols) (d : ℕ → R.Carrier)
      (null : (i : ℕ) → i < a.rows
      → sum_below R a.cols (λ k. R.mul (a.value i k) (d k)) ≡ R.zero) where
    -- d in the order of the columns of U
    abbrev moved : ℕ → R.Carrier
    moved k = d (get_or q k 0)

    -- L (U d) is zero
    product_null : (i : ℕ) → i < a.rows
        → sum_below R r (λ t. R.mul (l.value i t)
        (sum_below R a.cols (λ k. R.mul (u.value t k) (moved k)))) ≡ R.zero
    product_null i less =
        let row = get_or p i 0 in
        sym (product_assoc R r a.cols (λ t. l.value i t) u.value moved)
        ∙ sum_below-same R a.cols _ _ (λ k lt. ap (λ c. R.mul c (moved k)) (lu_at i k less lt))
        ∙ ap (λ n. sum_below R n (λ k. R.mul (a.value row (get_or q k 0)) (moved k)))
        (sym lu.col_count)
        ∙ sum_below-permuted R lu.col_order (λ k. R.mul (a.value row k) (d k))
        ∙ ap (λ n. sum_below R n (λ k. R.mul (a.value row k) (d k))) lu.col_count
        ∙ null row (omega (
          arith,
          lu.row_count,
          order_below lu.row_order i (omega (arith, lu.row_count)),
        ))

    -- so U d is zero
    upper_null : (i : ℕ) → i < r
        → sum_below R a.cols (λ k. R.mul (u.value i k) (moved k)) ≡ R.zero
    upper_null = triangle_null R r l.value (λ k. k)
        (λ i k less lt other. elim (lt_or_gt k i other) [
          | inl before ↦ inl before
          | inr after ↦ inr (lu.factors.above i k after lt)
        ]) unit_at (λ t. sum_below R a.cols (λ k. R.mul (u.value t k) (moved k)))
        (λ i less. product_null i (omega (arith, lu.factors.tall, lu.lower_rows)))

    moved_null : (k : ℕ) → k < r → moved k ≡ R.zero
    moved_null = triangle_null R r u.value (λ k. r - k)
        (λ i k less lt other. elim (lt_or_gt k i other) [
          | inl before ↦ inr (lu.factors.below i k before less)
          | inr after ↦ inl (omega arith)
        ])
        (λ k less. (R.one, R.laws.mul_one (u.value k k) ∙ lu.factors.ones k less))
        moved
        (λ i less. ap (λ n. sum_below R n (λ k. R.mul (u.value i k) (moved k))) full
        ∙ upper_null i less)

    pub full_rank_null : (k : ℕ) → k < a.cols → d k ≡ R.zero
    full_rank_null k less =
        let at = order_occurs lu.col_order k (omega (arith, lu.col_count)) in
        ap d (sym at.2) ∙ moved_null at.0 (omega (arith, at.1, full, lu.col_count))

module _ (R : CommRing) {T : Type 0} (f : T → R.Carrier) {a l u : Plain R} {p q : List ℕ}
    (lu : IsLu R f a l u p q a.cols) where
  pub full_rank_cancels : (n : ℕ) (x y : Plain R)
      → HasSameValues R a.rows n (plain_product R a x) (plain_product R a y)
      → HasSameValues R a.cols n x y
  full_rank_cancels n x y same i j less inside =
      same_from_difference R (x.value i j) (y.value i j)
      (full_rank_null R f lu refl (λ k. R.add (x.value k j) (R.neg (y.value k j)))
      (λ k lt. difference_null R a.cols (a.value k) (λ t. x.value t j) (λ t. y.value t j)
      (same k j lt inside)) i less)
