-- Plain matrices: equality, order of triplets, products.
use Rattle.std.proofs.Common.{◌≡◌, ℕ, zero, suc, ◌<◌, inl, inr, ◌↔◌, Bool, true, false, ◌&&◌}
use Rattle.std.proofs.Common.{List, ap, sym, ◌∙◌, refl, arith}
use Rattle.std.specs.Prelude.{◌||◌}
use Rattle.std.specs.List.Sorted.{IsPermutation}
use Rattle.std.proofs.lemmas.List.Sorted.{list_any-IsPermutation}
pub use Rattle.std.proofs.Math.Bool.{and_comm}
use Rattle.sparse_algebra.proofs.Cases.{and_fails, lt_suc_cases, neither, or_cases, or_left}
use Rattle.sparse_algebra.proofs.Cases.{or_right}
use Rattle.sparse_algebra.specs.Algebra.{CommRing}
use Rattle.sparse_algebra.specs.Sums.{sum_below, where_true}
use Rattle.sparse_algebra.proofs.RingLemmas.{mul_zero, zero_mul}
use Rattle.sparse_algebra.proofs.SumLemmas.{sum_by-permutation, sum_below-same, sum_below-none}
use Rattle.sparse_algebra.specs.Plain.{Plain, IsProper, any_below, is_at, plain_of_triplets}
use Rattle.sparse_algebra.specs.Plain.{plain_product, plain_transpose}

-- plain matrices with equal shapes, places and values are equal
pub same_plain : {R : CommRing} (a b : Plain R) → a.rows ≡ b.rows → a.cols ≡ b.cols
    → ((i j : ℕ) → a.has i j ≡ b.has i j) → ((i j : ℕ) → a.value i j ≡ b.value i j) → a ≡ b
same_plain {R} a b rows cols has value =
    λ k. record { rows = rows k; cols = cols k; has = λ i j. has i j k; value = λ i j. value i j k }

pub same_bool : (b c : Bool) → (b ≡ true → c ≡ true) → (c ≡ true → b ≡ true) → b ≡ c
same_bool true c h g = sym (h refl)
same_bool false true h g = g refl
same_bool false false h g = refl

pub any_below-same : (n : ℕ) (s t : ℕ → Bool) → ((k : ℕ) → s k ≡ t k)
    → any_below n s ≡ any_below n t
any_below-same zero s t h = refl
any_below-same (suc n) s t h = ap (λ b. b || s n) (any_below-same n s t h)
    ∙ ap (λ b. any_below n t || b) (h n)

pub plain_of_triplets-permuted : (R : CommRing) {T : Type 0} (f : T → R.Carrier) (rows cols : ℕ)
    (xs ys : List (ℕ × ℕ × T))
    → IsPermutation xs ys → plain_of_triplets R f rows cols xs ≡ plain_of_triplets R f rows cols ys
plain_of_triplets-permuted R {T} f rows cols xs ys p = same_plain (plain_of_triplets R f rows cols xs)
    (plain_of_triplets R f rows cols ys) refl refl
    (λ i j. list_any-IsPermutation (is_at i j) xs ys p)
    (λ i j. sum_by-permutation R (λ t. where_true R (is_at i j t) (f t.2)) xs ys p)

pub transpose_product : (R : CommRing) (a b : Plain R) → a.cols ≡ b.rows
    → plain_transpose R (plain_product R a b) ≡ plain_product R (plain_transpose R b)
    (plain_transpose R a)
transpose_product R a b e = same_plain (plain_transpose R (plain_product R a b))
    (plain_product R (plain_transpose R b) (plain_transpose R a)) refl refl
    (λ i j. ap (λ n. any_below n (λ k. a.has j k && b.has k i)) e
    ∙ any_below-same b.rows _ _ (λ k. and_comm (a.has j k) (b.has k i)))
    (λ i j. ap (λ n. sum_below R n (λ k. R.mul (a.value j k) (b.value k i))) e
    ∙ sum_below-same R b.rows _ _ (λ k _. R.laws.mul_comm (a.value j k) (b.value k i)))

any_below-some : (n : ℕ) (t : ℕ → Bool) → any_below n t ≡ true → (k : ℕ) × (k < n) × (t k ≡ true)
any_below-some zero t h = cc
any_below-some (suc n) t h = elim (or_cases (any_below n t) (t n) h) [
  | inl before ↦ let r = any_below-some n t before in (r.0, omega (arith, r.1), r.2)
  | inr here ↦ (n, omega arith, here)
]

pub any_below-at : (n k : ℕ) (t : ℕ → Bool) → k < n → t k ≡ true → any_below n t ≡ true
any_below-at zero k t lt h = absurd (omega arith)
any_below-at (suc n) k t lt h = elim (lt_suc_cases k n lt) [
  | inl before ↦ or_left (any_below n t) (t n) (any_below-at n k t before h)
  | inr here ↦ or_right (any_below n t) (t n) (ap t (sym here) ∙ h)
]

pub any_is : (n : ℕ) (t : ℕ → Bool) → (any_below n t ≡ true) ↔ ((k : ℕ) × (k < n) × (t k ≡ true))
any_is n t = (any_below-some n t, λ h. any_below-at n h.0 t h.1 h.2)

none_at : (n k : ℕ) (t : ℕ → Bool) → any_below n t ≡ false → k < n → t k ≡ false
none_at zero k t h lt = absurd (omega arith)
none_at (suc n) k t h lt =
    let parts = neither (any_below n t) (t n) h in
    elim (lt_suc_cases k n lt) [
      | inl before ↦ none_at n k t parts.0 before
      | inr here ↦ ap t here
          ∙ parts.1
    ]

pub proper_product : (R : CommRing) (a b : Plain R) → IsProper a → IsProper b
    → IsProper (plain_product R a b)
proper_product R a b pa pb i j h =
    sum_below-none R a.cols _
    (λ k lt. elim (and_fails (a.has i k) (b.has k j)
    (none_at a.cols k (λ k. a.has i k && b.has k j) h lt)) [
      | inl no_a ↦ ap (λ x. R.mul x (b.value k j)) (pa i k no_a) ∙ zero_mul R (b.value k j)
      | inr no_b ↦ ap (R.mul (a.value i k)) (pb k j no_b) ∙ mul_zero R (a.value i k)
    ])
