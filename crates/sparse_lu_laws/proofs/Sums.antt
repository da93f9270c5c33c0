-- Sums with one term, differences of sums, and sums of multiples.
use Rattle.std.proofs.Common.{◌≡◌, ◌≢◌, ℕ, zero, suc, ◌<◌, inl, inr, ap, sym, ◌∙◌, arith}
use Rattle.std.proofs.lemmas.Bool.{cases_eq}
use Rattle.sparse_algebra.specs.Algebra.{CommRing}
use Rattle.sparse_algebra.specs.Sums.{sum_below}
use Rattle.sparse_algebra.proofs.Products.{mul_neg}
use Rattle.sparse_algebra.proofs.RingLemmas.{zero_add, neg_zero, neg_add, cancel}
use Rattle.sparse_algebra.proofs.SumLemmas.{sum_below-none, sum_below-same, sum_below-add}

module _ (R : CommRing) where
  -- a sum with one term that may be other than zero
  pub sum_below-single : (n i : ℕ) (f : ℕ → R.Carrier) → i < n
      → ((k : ℕ) → k < n → k ≢ i → f k ≡ R.zero) → sum_below R n f ≡ f i
  sum_below-single zero i f less none = absurd (omega arith)
  sum_below-single (suc n) i f less none = elim (cases_eq n i) [
    | inl last ↦
        ap (λ c. R.add c (f n))
        (sum_below-none R n f (λ k lt. none k (omega arith) (omega arith)))
        ∙ zero_add R (f n) ∙ ap f last
    | inr before ↦
        ap (R.add (sum_below R n f)) (none n (omega arith) before) ∙ R.laws.add_zero _
        ∙ sum_below-single n i f (omega arith) (λ k lt. none k (omega arith))
  ]

  pub sum_below-neg : (n : ℕ) (f : ℕ → R.Carrier)
      → sum_below R n (λ k. R.neg (f k)) ≡ R.neg (sum_below R n f)
  sum_below-neg zero f = sym (neg_zero R)
  sum_below-neg (suc n) f = ap (λ c. R.add c (R.neg (f n))) (sum_below-neg n f)
      ∙ sym (neg_add R (sum_below R n f) (f n))

  -- if a row has the same product with x and with y, its product with x - y is zero
  pub difference_null : (n : ℕ) (a x y : ℕ → R.Carrier)
      → sum_below R n (λ k. R.mul (a k) (x k)) ≡ sum_below R n (λ k. R.mul (a k) (y k))
      → sum_below R n (λ k. R.mul (a k) (R.add (x k) (R.neg (y k)))) ≡ R.zero
  difference_null n a x y same =
      sum_below-same R n _ _ (λ k _. R.laws.distrib (a k) (x k) (R.neg (y k))
      ∙ ap (R.add (R.mul (a k) (x k))) (mul_neg R (a k) (y k)))
      ∙ sum_below-add R n (λ k. R.mul (a k) (x k)) (λ k. R.neg (R.mul (a k) (y k)))
      ∙ ap (R.add (sum_below R n (λ k. R.mul (a k) (x k))))
      (sum_below-neg n (λ k. R.mul (a k) (y k)) ∙ ap R.neg (sym same))
      ∙ R.laws.add_neg _

  -- if x - y = 0, then x = y
  pub same_from_difference : (x y : R.Carrier) → R.add x (R.neg y) ≡ R.zero → x ≡ y
  same_from_difference x y none = cancel R x y (R.neg y) (none ∙ sym (R.laws.add_neg y))
