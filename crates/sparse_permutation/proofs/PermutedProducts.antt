-- Products of permuted plain matrices.
use Rattle.std.proofs.Common.{◌≡◌, ℕ, ◌<◌, inl, inr, Bool, true, false, List, length, get_or}
use Rattle.std.proofs.Common.{◌∙◌, refl, arith}
use Rattle.std.specs.Prelude.{nat_lt, ◌&&◌}
use Rattle.sparse_algebra.specs.Algebra.{CommRing}
use Rattle.sparse_algebra.specs.Sums.{sum_below, where_true}
use Rattle.sparse_algebra.specs.Plain.{Plain, any_below, plain_product}
use Rattle.sparse_algebra.proofs.Cases.{true_or_false}
use Rattle.sparse_algebra.proofs.RingLemmas.{zero_mul}
use Rattle.sparse_algebra.proofs.SumLemmas.{sum_below-same, sum_below-none}
use Rattle.sparse_algebra.proofs.PlainLemmas.{same_plain, any_is}
use Rattle.sparse_permutation.specs.Permutations.{IsOrder}
use Rattle.sparse_permutation.specs.PermutedPlain.{plain_rows_permuted, plain_permuted}
use Rattle.sparse_permutation.proofs.PermutedPlain.{is_below}
use Rattle.sparse_permutation.proofs.Reindexing.{sum_below-permuted, any_below-permuted}

-- no number passes a test that fails at each
any_below-fails : (n : ℕ) (t : ℕ → Bool) → ((k : ℕ) → t k ≡ false) → any_below n t ≡ false
any_below-fails n t none = elim (true_or_false (any_below n t)) [
  | inl some ↦
      let at = (any_is n t).0 some in
      absurd (let hit : t at.0 ≡ true = at.2 in let miss = none at.0 in cc)
  | inr miss ↦ miss
]

module _ (R : CommRing) {p : List ℕ} (order : IsOrder p) (a x : Plain R)
    (rows : a.rows ≡ length p) (cols : a.cols ≡ length p) (inner : x.rows ≡ length p) where
  -- (P A Pᵀ) (P X) = P (A X)
  pub permuted-product : plain_product R (plain_permuted R p a) (plain_rows_permuted R p x)
      ≡ plain_rows_permuted R p (plain_product R a x)
  permuted-product = same_plain (plain_product R (plain_permuted R p a) (plain_rows_permuted R p x))
      (plain_rows_permuted R p (plain_product R a x)) refl refl places values
    where
      inside_cols : (k : ℕ) → k < length p → nat_lt k a.cols ≡ true
      inside_cols k less = is_below k a.cols (omega (arith, cols))

      inside_rows : (k : ℕ) → k < length p → nat_lt k x.rows ≡ true
      inside_rows k less = is_below k x.rows (omega (arith, inner))

      places : (i j : ℕ)
          → any_below a.cols (λ k. ((nat_lt i a.rows && nat_lt k a.cols)
          && a.has (get_or p i 0) (get_or p k 0)) && (nat_lt k x.rows && x.has (get_or p k 0) j))
          ≡ (nat_lt i a.rows && any_below a.cols (λ k. a.has (get_or p i 0) k && x.has k j))
      places i j = elim (true_or_false (nat_lt i a.rows)) [
        | inl inside ↦ rw (inside, cols) (any_below-permuted order _
            (λ k. a.has (get_or p i 0) k && x.has k j)
            (λ k less.
            let first : nat_lt k (length p) ≡ true = is_below k (length p) less in
            let second = inside_rows k less in
            rw (first, second) refl))
        | inr outside ↦ rw outside (any_below-fails a.cols _ (λ k. refl))
      ]

      values : (i j : ℕ)
          → sum_below R a.cols (λ k. R.mul
          (where_true R (nat_lt i a.rows && nat_lt k a.cols) (a.value (get_or p i 0) (get_or p k 0)))
          (where_true R (nat_lt k x.rows) (x.value (get_or p k 0) j)))
          ≡ where_true R (nat_lt i a.rows)
          (sum_below R a.cols (λ k. R.mul (a.value (get_or p i 0) k) (x.value k j)))
      values i j = elim (true_or_false (nat_lt i a.rows)) [
        | inl inside ↦ rw (inside, cols) (sum_below-same R (length p) _
            (λ k. R.mul (a.value (get_or p i 0) (get_or p k 0)) (x.value (get_or p k 0) j))
            (λ k less.
            let first : nat_lt k (length p) ≡ true = is_below k (length p) less in
            let second = inside_rows k less in
            rw (first, second) refl)
            ∙ sum_below-permuted R order (λ k. R.mul (a.value (get_or p i 0) k) (x.value k j)))
        | inr outside ↦ rw outside (sum_below-none R a.cols _ (λ k less. zero_mul R _))
      ]
