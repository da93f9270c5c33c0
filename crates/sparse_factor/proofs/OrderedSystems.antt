-- The factors of P A Pᵀ solve the system of A.
use Rattle.std.proofs.Common.{◌≡◌, ℕ, ◌<◌, inl, inr, true, List, length, get_or}
use Rattle.std.proofs.Common.{ap, sym, ◌∙◌, refl, arith}
use Rattle.std.specs.Prelude.{nat_lt}
use Rattle.sparse_algebra.proofs.Cases.{true_or_false, and_parts}
use Rattle.sparse_algebra.proofs.SumLemmas.{where_yes, where_no}
use Rattle.sparse_algebra.proofs.PlainLemmas.{same_plain}
use Rattle.sparse_algebra.specs.Algebra.{CommRing}
use Rattle.sparse_algebra.specs.Plain.{Plain, IsProper, IsWithin, plain_product}
use Rattle.sparse_coo_dense.specs.Dense.{Dense}
use Rattle.sparse_coo_dense.specs.DensePlain.{plain_of_dense, plain_full, is_inside}
use Rattle.sparse_dense_ops.specs.Solutions.{HasSameValues, IsSolution}
use Rattle.sparse_permutation.specs.Permutations.{IsOrder, IsInverse}
use Rattle.sparse_permutation.specs.PermutedPlain.{plain_permuted, plain_rows_permuted}
use Rattle.sparse_permutation.proofs.Orders.{order_below}
use Rattle.sparse_permutation.proofs.PermutedPlain.{is_below, below_is, both_below, rows_undone}
use Rattle.sparse_permutation.proofs.PermutedProducts.{permuted-product}

module _ (R : CommRing) {T : Type 0} (f : T → R.Carrier) where
  dense_proper : (d : Dense T) → IsProper (plain_of_dense R f d)
  dense_proper d i j miss = where_no R (is_inside d i j) _ miss

  dense_within : (d : Dense T) → IsWithin (plain_of_dense R f d)
  dense_within d i j hit =
      let parts = and_parts (nat_lt i d.nrows) (nat_lt j d.ncols) hit in
      (below_is i d.nrows parts.0, below_is j d.ncols parts.1)

module _ (R : CommRing) where
  -- every pair within the shape is a place, also after the rows are permuted
  full_rows : {q : List ℕ} → IsOrder q → (a : Plain R) → a.rows ≡ length q
      → plain_full R (plain_rows_permuted R q a) ≡ plain_rows_permuted R q (plain_full R a)
  full_rows {q} order a rows = same_plain (plain_full R (plain_rows_permuted R q a))
      (plain_rows_permuted R q (plain_full R a)) refl refl
      (λ i j. elim (true_or_false (nat_lt i a.rows)) [
        | inl inside ↦
            let less = below_is i a.rows inside in
            let at : nat_lt (get_or q i 0) a.rows ≡ true = is_below (get_or q i 0) a.rows
            (omega (arith, rows, order_below order i (omega (arith, rows)))) in
            rw (inside, at) refl
        | inr outside ↦ rw outside refl
      ])
      (λ i j. refl)

  module _ {p q : List ℕ} (inverse : IsInverse p q) (order : IsOrder q) where
    -- P m Pᵀ permuted by the inverse has the values of m
    pub permuted_back : (m a : Plain R) (n : ℕ) → n ≡ length p → m.rows ≡ n → m.cols ≡ n → a.rows ≡ n
        → a.cols ≡ n → HasSameValues R n n m (plain_permuted R p a)
        → HasSameValues R n n (plain_permuted R q m) a
    permuted_back m a n size m_rows m_cols a_rows a_cols same i j row col =
        let k = get_or q i 0 in
        let l = get_or q j 0 in
        let k_below : k < n =
        omega (arith, size, inverse.count, order_below order i (omega (arith, size, inverse.count))) in
        let l_below : l < n =
        omega (arith, size, inverse.count, order_below order j (omega (arith, size, inverse.count))) in
        where_yes R _ (m.value k l)
        (both_below i m.rows j m.cols (omega (arith, m_rows)) (omega (arith, m_cols)))
        ∙ same k l k_below l_below
        ∙ where_yes R _ (a.value (get_or p k 0) (get_or p l 0))
        (both_below k a.rows l a.cols (omega (arith, a_rows)) (omega (arith, a_cols)))
        ∙ ap (λ x. a.value x (get_or p l 0)) (inverse.right i (omega (arith, size)))
        ∙ ap (a.value i) (inverse.right j (omega (arith, size)))

    -- a solution of the permuted system, whose rows are permuted back, solves the system
    pub solved_back : {T : Type 0} (f : T → R.Carrier) (m : Plain R) (b c y x : Dense T)
        → m.rows ≡ length p → m.cols ≡ length p → b.nrows ≡ length p → y.nrows ≡ length p
        → plain_of_dense R f c ≡ plain_rows_permuted R p (plain_of_dense R f b)
        → IsSolution R m (plain_of_dense R f y) (plain_of_dense R f c)
        → plain_of_dense R f x ≡ plain_rows_permuted R q (plain_of_dense R f y)
        → IsSolution R (plain_permuted R q m) (plain_of_dense R f x) (plain_of_dense R f b)
    solved_back f m b c y x m_rows m_cols b_rows y_rows moved solved back =
        let Y = plain_of_dense R f y in
        ap (λ (v : Plain R). plain_full R (plain_product R (plain_permuted R q m) v)) back
        ∙ ap (plain_full R) (permuted-product R order m Y (m_rows ∙ sym inverse.count)
        (m_cols ∙ sym inverse.count) (y_rows ∙ sym inverse.count))
        ∙ full_rows order (plain_product R m Y) (m_rows ∙ sym inverse.count)
        ∙ ap (plain_rows_permuted R q) (solved ∙ moved)
        ∙ rows_undone R inverse order (plain_of_dense R f b) b_rows (dense_proper R f b)
        (dense_within R f b)
