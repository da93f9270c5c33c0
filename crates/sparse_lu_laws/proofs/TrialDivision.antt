-- Primes by trial division: by all smaller numbers, or up to the square root.
use Rattle.std.proofs.Common.{◌≡◌, ◌≢◌, ℕ, zero, suc, ◌+◌, ◌*◌, ◌/◌, ◌%◌, ◌^◌, ◌<◌, ◌≤◌, ◌⊎◌, inl}
use Rattle.std.proofs.Common.{inr, ◌-◌, Bool, true, ap, sym, ◌∙◌, subst, arith}
use Rattle.std.specs.Prelude.{nat_eq, nat_lt, not, ◌&&◌}
use Rattle.std.specs.Int.{◌∣◌}
use Rattle.std.proofs.Math.Nat.{div-add-mod', eq-zero_of_zero-dvd, mod-eq-zero_of_dvd, mul-le-mul}
use Rattle.std.proofs.Math.Nat.{mul-mod_left, mul-mod_right, pow-suc}
use Rattle.std.proofs.lemmas.Bool.{cases_eq}
use Rattle.std.proofs.lemmas.Bool.Decides.{Decides-ltb, nat_tests}
use Rattle.std.proofs.lemmas.Nat.Gcd.{le_of_dvd}
use Rattle.sparse_algebra.proofs.Cases.{and_parts, lt_or_ge}
use Rattle.sparse_lu_laws.specs.Primes.{IsPrime}

-- ---- by all smaller numbers

-- whether none of the numbers from 2 to k + 1 divides m
unfoldable pub no_divisor : ℕ → ℕ → Bool
no_divisor m zero = true
no_divisor m (suc k) = not (nat_eq (m % (k + 2)) 0) && no_divisor m k

no_divisor_at : (m k d : ℕ) → no_divisor m k ≡ true → 1 < d → d < k + 2 → m % d ≢ 0
unfolding no_divisor
no_divisor_at m zero d test more less divides = absurd (omega arith)
no_divisor_at m (suc k) d test more less divides =
    let both = and_parts (not (nat_eq (m % (k + 2)) 0)) (no_divisor m k) test in
    elim (cases_eq d (k + 2)) [
      | inl last ↦
          let at : m % (k + 2) ≡ 0 = ap (λ x. m % x) (sym last) ∙ divides in
          grind (arith, nat_tests, both.0)
      | inr before ↦ no_divisor_at m k d both.1 more (omega arith) divides
    ]

-- whether m is above one and has no divisor between one and m
unfoldable pub is_small_prime : ℕ → Bool
is_small_prime m = nat_lt 1 m && no_divisor m (m - 2)

pub small_prime : (m : ℕ) → is_small_prime m ≡ true → IsPrime m
unfolding is_small_prime
small_prime m test =
    let both = and_parts (nat_lt 1 m) (no_divisor m (m - 2)) test in
    let more : 1 < m = (Decides-ltb 1 m).0 both.0 in
    let positive : 0 < m = omega arith in
    record {
      above_one = more;
      divisors = λ d divides.
          let most : d ≤ m = le_of_dvd positive divides in
          let rest : m % d ≡ 0 = mod-eq-zero_of_dvd d divides in
          let some : d ≢ 0 = λ none.
          let nothing = eq-zero_of_zero-dvd (subst (λ x. x ∣ m) none divides) in
          absurd (omega (arith, nothing)) in
          elim (cases_eq d m) [
            | inl whole ↦ inr whole
            | inr other ↦ elim (cases_eq d 1) [
              | inl one ↦ inl one
              | inr between ↦ absurd (no_divisor_at m (m - 2) d both.1 (omega arith) (omega arith)
                  rest)
            ]
          ];
    }

-- ---- up to the square root

-- whether none of the 2 ^ n numbers from d divides m
unfoldable pub none_divides : ℕ → ℕ → ℕ → Bool
none_divides m zero d = not (nat_eq (m % d) 0)
none_divides m (suc n) d = none_divides m n d && none_divides m n (d + 2 ^ n)

none_divides_at : (m n d k : ℕ) → none_divides m n d ≡ true → d ≤ k → k < d + 2 ^ n → m % k ≢ 0
unfolding none_divides
none_divides_at m zero d k test from below divides =
    let here : d ≡ k = omega arith in
    let at : m % d ≡ 0 = ap (λ x. m % x) here ∙ divides in
    grind (arith, nat_tests)
none_divides_at m (suc n) d k test from below divides =
    let both = and_parts (none_divides m n d) (none_divides m n (d + 2 ^ n)) test in
    elim (lt_or_ge k (d + 2 ^ n)) [
      | inl first ↦ none_divides_at m n d k both.0 from first divides
      | inr second ↦ none_divides_at m n (d + 2 ^ n) k both.1 second (omega (arith, pow-suc 2 n))
          divides
    ]

module _ (m n : ℕ) (more : 1 < m) (bound : m < (2 + 2 ^ n) * (2 + 2 ^ n))
    (test : none_divides m n 2 ≡ true) where
  -- a divisor below the bound is one
  small_divisor : (k : ℕ) → m % k ≡ 0 → k ≢ 0 → k < 2 + 2 ^ n → k ≡ 1
  small_divisor k divides some less = elim (cases_eq k 1) [
    | inl one ↦ one
    | inr other ↦ absurd (none_divides_at m n 2 k test (omega arith) less divides)
  ]

  -- a divisor d is below the bound, or the quotient m / d is
  either : (c d : ℕ) → c * d ≡ m → (d ≡ 1) ⊎ (d ≡ m)
  either c d product = elim (lt_or_ge d (2 + 2 ^ n)) [
    | inl less ↦ inl (small_divisor d (ap (λ x. x % d) (sym product) ∙ mul-mod_left c d)
        (λ none. absurd (omega (arith, ap (λ x. c * x) none))) less)
    | inr most ↦ elim (lt_or_ge c (2 + 2 ^ n)) [
      | inl less ↦
          let one : c ≡ 1 = small_divisor c (ap (λ x. x % c) (sym product) ∙ mul-mod_right c d)
          (λ none. absurd (omega (arith, ap (λ x. x * d) none))) less in
          inr (omega (arith, ap (λ x. x * d) one))
      | inr both ↦ absurd (omega (arith, mul-le-mul both most))
    ]
  ]

  -- a number without a divisor from 2 up to its square root is prime
  pub prime_by_trial : IsPrime m
  prime_by_trial = record {
    above_one = more;
    divisors = λ d divides. either (m / d) d
        (let rest = mod-eq-zero_of_dvd d divides in omega (arith, div-add-mod' m d));
  }
