-- A sum over the numbers below n, and whether one of them passes a test, do not change if the numbers are permuted.
use Rattle.std.proofs.Common.{◌≡◌, ◌≢◌, ℕ, zero, suc, ◌<◌, inl, inr, Bool, List, length, get_or}
use Rattle.std.proofs.Common.{ap, sym, ◌∙◌, refl, arith}
use Rattle.std.specs.Prelude.{nat_eq}
use Rattle.std.proofs.lemmas.Bool.{cases_eq}
use Rattle.std.proofs.lemmas.Bool.Decides.{Decides-eqb}
use Rattle.sparse_algebra.specs.Algebra.{CommRing}
use Rattle.sparse_algebra.specs.Sums.{sum_below, where_true}
use Rattle.sparse_algebra.specs.Plain.{any_below}
use Rattle.sparse_algebra.proofs.Cases.{nat_eq_no}
use Rattle.sparse_algebra.proofs.RingLemmas.{zero_add}
use Rattle.sparse_algebra.proofs.SumLemmas.{sum_below-same, sum_below-none, sum_below-exchange}
use Rattle.sparse_algebra.proofs.SumLemmas.{where_yes, where_no}
use Rattle.sparse_algebra.proofs.PlainLemmas.{same_bool, any_is}
use Rattle.sparse_permutation.specs.Permutations.{IsOrder}
use Rattle.sparse_permutation.proofs.Orders.{order_below, order_once, order_occurs}

module _ (R : CommRing) where
  -- a sum with one term that may be other than zero
  sum_below-single : (n i : ℕ) (f : ℕ → R.Carrier) → i < n
      → ((k : ℕ) → k < n → k ≢ i → f k ≡ R.zero) → sum_below R n f ≡ f i
  sum_below-single zero i f less none = absurd (omega arith)
  sum_below-single (suc n) i f less none = elim (cases_eq n i) [
    | inl last ↦
        ap (λ c. R.add c (f n))
        (sum_below-none R n f (λ k lt. none k (omega arith) (omega arith)))
        ∙ zero_add R (f n) ∙ ap f last
    | inr before ↦
        ap (R.add (sum_below R n f)) (none n (omega arith) before) ∙ R.laws.add_zero _
        ∙ sum_below-single n i f (omega arith) (λ k lt. none k (omega arith))
  ]

  module _ {p : List ℕ} (order : IsOrder p) (f : ℕ → R.Carrier) where
    abbrev n : ℕ
    n = length p

    -- f i if i is the index at k, otherwise zero
    abbrev term : ℕ → ℕ → R.Carrier
    term k i = where_true R (nat_eq (get_or p k 0) i) (f i)

    term_at : (k i : ℕ) → get_or p k 0 ≡ i → term k i ≡ f i
    term_at k i same = where_yes R _ (f i) ((Decides-eqb (get_or p k 0) i).1 same)

    term_off : (k i : ℕ) → get_or p k 0 ≢ i → term k i ≡ R.zero
    term_off k i other = where_no R _ (f i) (nat_eq_no (get_or p k 0) i other)

    over_values : (k : ℕ) → k < n → sum_below R n (λ i. term k i) ≡ f (get_or p k 0)
    over_values k less =
        let at = get_or p k 0 in
        sum_below-single n at (λ i. term k i) (order_below order k less)
        (λ i lt other. term_off k i (λ e. other (sym e))) ∙ term_at k at refl

    over_indices : (i : ℕ) → i < n → sum_below R n (λ k. term k i) ≡ f i
    over_indices i less =
        let at = order_occurs order i less in
        sum_below-single n at.0 (λ k. term k i) at.1
        (λ k lt other. term_off k i (λ e. other (order_once order k at.0 lt at.1 (e ∙ sym at.2))))
        ∙ term_at at.0 i at.2

    pub sum_below-permuted : sum_below R n (λ k. f (get_or p k 0)) ≡ sum_below R n f
    sum_below-permuted =
        sym (sum_below-same R n _ _ over_values) ∙ sum_below-exchange R n n term
        ∙ sum_below-same R n _ _ over_indices

-- the same for a test, which need only agree below n
pub any_below-permuted : {p : List ℕ} → IsOrder p → (s t : ℕ → Bool)
    → ((k : ℕ) → k < length p → s k ≡ t (get_or p k 0))
    → any_below (length p) s ≡ any_below (length p) t
any_below-permuted {p} order s t same = same_bool _ _
    (λ h.
    let some = (any_is (length p) s).0 h in
    (any_is (length p) t).1 (
      get_or p some.0 0,
      order_below order some.0 some.1,
      sym (same some.0 some.1) ∙ some.2,
    ))
    (λ h.
    let some = (any_is (length p) t).0 h in
    let at = order_occurs order some.0 some.1 in
    (any_is (length p) s).1 (at.0, at.1, same at.0 at.1 ∙ ap t at.2 ∙ some.2))
