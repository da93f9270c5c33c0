-- The pigeonhole principle: an injection of the numbers below n into themselves takes each as a value.
use Rattle.std.proofs.Common.{◌≡◌, ◌≢◌, ℕ, zero, suc, ◌<◌, ◌⊎◌, inl, inr, ap, sym, ◌∙◌, arith}
use Rattle.std.specs.Prelude.{nat_eq, if◌then◌else◌}
use Rattle.std.proofs.lemmas.Bool.Decides.{nat_tests}
use Rattle.std.proofs.lemmas.Bool.{cases_eq}

-- f maps the numbers below m to numbers below n, and no two of them to the same
pub record IsInjection (m n : ℕ) (f : ℕ → ℕ) : Type 0 where
  pub below : (k : ℕ) → k < m → f k < n
  pub apart : (k l : ℕ) → k < l → l < m → f k ≢ f l

-- f with the value y in place of the value x
abbrev replaced : (ℕ → ℕ) → ℕ → ℕ → ℕ → ℕ
replaced f x y k = if nat_eq (f k) x then y else f k

-- if y is not a value of an injection, it may take the place of the greatest value
replaced_injection : (m n y : ℕ) (f : ℕ → ℕ) → IsInjection m (suc n) f → y < suc n
    → ((k : ℕ) → k < m → f k ≢ y) → IsInjection m n (replaced f n y)
replaced_injection m n y f inj lt missed = record {
  below = λ k less.
      let bound : f k < suc n = inj.below k less in
      let other : f k ≢ y = missed k less in
      grind (arith, nat_tests);
  apart = λ k l before less.
      let first : f k ≢ y = missed k (omega arith) in
      let second : f l ≢ y = missed l less in
      let differ : f k ≢ f l = inj.apart k l before less in
      grind (arith, nat_tests);
}

no_injection : (n : ℕ) (f : ℕ → ℕ) → IsInjection (suc n) n f → ⊥
no_injection zero f inj = absurd (omega (arith, inj.below 0 (omega arith)))
no_injection (suc n) f inj =
    let without_last : IsInjection (suc n) (suc n) f = record {
      below = λ k less. inj.below k (omega arith);
      apart = λ k l before less. inj.apart k l before (omega arith);
    } in
    no_injection n (replaced f n (f (suc n))) (replaced_injection (suc n) n (f (suc n)) f without_last
    (inj.below (suc n) (omega arith)) (λ k less. inj.apart k (suc n) less (omega arith)))

-- whether i is one of the first n values of f
is_value : (n i : ℕ) (f : ℕ → ℕ)
    → ((k : ℕ) × (k < n) × (f k ≡ i)) ⊎ ((k : ℕ) → k < n → f k ≢ i)
is_value zero i f = inr (λ k less. absurd (omega arith))
is_value (suc n) i f = elim (is_value n i f) [
  | inl found ↦ inl (found.0, omega (arith, found.1), found.2)
  | inr none ↦ elim (cases_eq (f n) i) [
    | inl here ↦ inl (n, omega arith, here)
    | inr other ↦ inr (λ k less. elim (cases_eq k n) [
      | inl last ↦ λ e. other (ap f (sym last) ∙ e)
      | inr before ↦ none k (omega arith)
    ])
  ]
]

pub each_is_value : (n : ℕ) (f : ℕ → ℕ) → IsInjection n n f → (i : ℕ) → i < n
    → (k : ℕ) × (k < n) × (f k ≡ i)
each_is_value zero f inj i less = absurd (omega arith)
each_is_value (suc n) f inj i less = elim (is_value (suc n) i f) [
  | inl found ↦ found
  | inr none ↦ absurd (no_injection n (replaced f n i)
      (replaced_injection (suc n) n i f inj less none))
]
