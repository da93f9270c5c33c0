-- Identities of one step of an elimination: sums without their first or another term, sums of combined rows and
-- columns, and values that become zero.
use Rattle.std.proofs.Common.{◌≡◌, ℕ, zero, suc, ◌<◌, inl, inr, ap, sym, ◌∙◌, arith}
use Rattle.std.specs.Prelude.{nat_lt, if◌then◌else◌}
use Rattle.std.proofs.lemmas.Bool.Decides.{nat_tests}
use Rattle.sparse_algebra.proofs.Cases.{lt_suc_cases}
use Rattle.sparse_algebra.specs.Algebra.{CommRing}
use Rattle.sparse_algebra.specs.Sums.{sum_below}
use Rattle.sparse_algebra.proofs.Products.{mul_neg}
use Rattle.sparse_algebra.proofs.RingLemmas.{distrib_right}
use Rattle.sparse_algebra.proofs.SumLemmas.{sum_below-same, sum_below-add, sum_below-mul}

-- the number at k among all but q
pub skip : ℕ → ℕ → ℕ
skip q k = if nat_lt k q then k else suc k

skip_before : (q k : ℕ) → k < q → skip q k ≡ k
unfolding skip
skip_before q k less = grind (arith, nat_tests)

skip_after : (q k : ℕ) → q < suc k → skip q k ≡ suc k
unfolding skip
skip_after q k less = grind (arith, nat_tests)

module _ (R : CommRing) where
  -- ---- sums without one term

  pub sum_below-first : (n : ℕ) (g : ℕ → R.Carrier)
      → sum_below R (suc n) g ≡ R.add (g 0) (sum_below R n (λ k. g (suc k)))
  sum_below-first zero g = R.laws.add_comm R.zero (g 0)
  sum_below-first (suc n) g = ap (λ c. R.add c (g (suc n))) (sum_below-first n g)
      ∙ R.laws.add_assoc (g 0) (sum_below R n (λ k. g (suc k))) (g (suc n))

  -- the term at n is among those of the sum, or the one that is left out
  pub sum_below-skip : (n q : ℕ) (g : ℕ → R.Carrier) → q < suc n
      → sum_below R (suc n) g ≡ R.add (g q) (sum_below R n (λ k. g (skip q k)))
  sum_below-skip zero q g less =
      R.laws.add_comm R.zero (g 0)
      ∙ ap (λ k. R.add (g k) R.zero) (let e : 0 ≡ q = omega arith in e)
  sum_below-skip (suc n) q g less = elim (lt_suc_cases q (suc n) less) [
    | inl before ↦
        ap (λ c. R.add c (g (suc n))) (sum_below-skip n q g before)
        ∙ R.laws.add_assoc (g q) (sum_below R n (λ k. g (skip q k))) (g (suc n))
        ∙ ap (λ k. R.add (g q) (R.add (sum_below R n (λ k. g (skip q k))) (g k)))
        (sym (skip_after q n before))
    | inr last ↦
        R.laws.add_comm (sum_below R (suc n) g) (g (suc n))
        ∙ ap (λ k. R.add (g k) (sum_below R (suc n) g)) (sym last)
        ∙ ap (R.add (g q)) (sum_below-same R (suc n) g _
        (λ k lt. ap g (sym (skip_before q k (omega arith)))))
  ]

  -- ---- combinations

  -- (x + c w) z = x z + c (w z), of rows x and w and a column z
  pub row_combination : (n : ℕ) (c : R.Carrier) (x w z : ℕ → R.Carrier)
      → sum_below R n (λ k. R.mul (R.add (x k) (R.mul c (w k))) (z k))
      ≡ R.add (sum_below R n (λ k. R.mul (x k) (z k)))
      (R.mul c (sum_below R n (λ k. R.mul (w k) (z k))))
  row_combination n c x w z =
      sum_below-same R n _ _ (λ k _. distrib_right R (x k) (R.mul c (w k)) (z k)
      ∙ ap (R.add (R.mul (x k) (z k))) (R.laws.mul_assoc c (w k) (z k)))
      ∙ sum_below-add R n (λ k. R.mul (x k) (z k)) (λ k. R.mul c (R.mul (w k) (z k)))
      ∙ ap (R.add (sum_below R n (λ k. R.mul (x k) (z k))))
      (sum_below-mul R n c (λ k. R.mul (w k) (z k)))

  -- x (y + z c) = x y + (x z) c, of a row x and columns y and z
  pub column_combination : (n : ℕ) (c : R.Carrier) (x y z : ℕ → R.Carrier)
      → sum_below R n (λ k. R.mul (x k) (R.add (y k) (R.mul (z k) c)))
      ≡ R.add (sum_below R n (λ k. R.mul (x k) (y k)))
      (R.mul (sum_below R n (λ k. R.mul (x k) (z k))) c)
  column_combination n c x y z =
      sum_below-same R n _ _ (λ k _. R.laws.distrib (x k) (y k) (R.mul (z k) c)
      ∙ ap (R.add (R.mul (x k) (y k))) (sym (R.laws.mul_assoc (x k) (z k) c)
      ∙ R.laws.mul_comm (R.mul (x k) (z k)) c))
      ∙ sum_below-add R n (λ k. R.mul (x k) (y k)) (λ k. R.mul c (R.mul (x k) (z k)))
      ∙ ap (R.add (sum_below R n (λ k. R.mul (x k) (y k))))
      (sum_below-mul R n c (λ k. R.mul (x k) (z k))
      ∙ R.laws.mul_comm c (sum_below R n (λ k. R.mul (x k) (z k))))

  -- ---- values that become zero

  -- if m g = 1, then g (m b) = b
  undone : (m g b : R.Carrier) → R.mul m g ≡ R.one → R.mul g (R.mul m b) ≡ b
  undone m g b e = sym (R.laws.mul_assoc g m b)
      ∙ ap (λ c. R.mul c b) (R.laws.mul_comm g m ∙ e) ∙ R.laws.mul_comm R.one b ∙ R.laws.mul_one b

  -- if m g = 1, then a b - (a g) (m b) = 0
  pub cleared_value : (m g a b : R.Carrier) → R.mul m g ≡ R.one
      → R.add (R.mul a b) (R.mul (R.neg (R.mul a g)) (R.mul m b)) ≡ R.zero
  cleared_value m g a b e =
      let back : R.mul (R.neg (R.mul a g)) (R.mul m b) ≡ R.neg (R.mul a b) =
      R.laws.mul_comm (R.neg (R.mul a g)) (R.mul m b) ∙ mul_neg R (R.mul m b) (R.mul a g)
      ∙ ap R.neg (R.laws.mul_comm (R.mul m b) (R.mul a g) ∙ R.laws.mul_assoc a g (R.mul m b)
      ∙ ap (R.mul a) (undone m g b e)) in
      ap (R.add (R.mul a b)) back ∙ R.laws.add_neg (R.mul a b)

  -- if m g = 1, then b - m (g b) = 0
  pub cleared_pivot : (m g b : R.Carrier) → R.mul m g ≡ R.one
      → R.add b (R.mul m (R.neg (R.mul g b))) ≡ R.zero
  cleared_pivot m g b e =
      ap (R.add b) (mul_neg R m (R.mul g b)
      ∙ ap R.neg (undone g m b (R.laws.mul_comm g m ∙ e))) ∙ R.laws.add_neg b

  -- if a + c = 0, then (a + b) + c = b
  pub left_over : (a b c : R.Carrier) → R.add a c ≡ R.zero → R.add (R.add a b) c ≡ b
  left_over a b c e = ap (λ x. R.add x c) (R.laws.add_comm a b) ∙ R.laws.add_assoc b a c
      ∙ ap (R.add b) e ∙ R.laws.add_zero b
