-- Lucas's test for primes: m is prime if a ^ (m - 1) = 1 modulo m, and a ^ ((m - 1) / q) - 1 has an inverse modulo m
-- for each prime q that divides m - 1.
use Rattle.std.proofs.Common.{◌≡◌, ◌≢◌, ℕ, zero, suc, ◌+◌, ◌*◌, ◌/◌, ◌%◌, ◌^◌, ◌<◌, ◌≤◌, inl, inr}
use Rattle.std.proofs.Common.{List, [], ◌∷◌, ap, sym, ◌∙◌, subst, arith}
use Rattle.std.specs.Prelude.{Bool, true, nat_eq}
use Rattle.std.specs.Int.{◌∣◌}
use Rattle.std.specs.List.{list_all}
use Rattle.std.proofs.Math.Nat.{div-add-mod', div-le_self, dvd-add_iff_right, dvd-mul_right}
use Rattle.std.proofs.Math.Nat.{dvd-mul_right_of_dvd, dvd_of_mod-eq-zero, eq-one_of_dvd-one}
use Rattle.std.proofs.Math.Nat.{eq-zero_of_zero-dvd, mod-eq-zero_of_dvd, mod-eq_of_lt, mod-lt}
use Rattle.std.proofs.Math.Nat.{zero-mod}
use Rattle.std.proofs.lemmas.Bool.{cases_eq}
use Rattle.std.proofs.lemmas.Bool.Decides.{Decides-eqb}
use Rattle.std.proofs.lemmas.Nat.Gcd.{le_of_dvd}
use Rattle.sparse_algebra.specs.Algebra.{CommRing}
use Rattle.sparse_algebra.specs.Moduli.{modulus, mod_class, mod_ring}
use Rattle.sparse_algebra.specs.Residues.{mul-mod_left}
use Rattle.sparse_algebra.proofs.Cases.{and_parts}
use Rattle.sparse_algebra.proofs.ModClasses.{mod_class_add, mod_same}
use Rattle.sparse_algebra.proofs.RingLemmas.{zero_mul}
use Rattle.sparse_lu_laws.specs.Primes.{IsPrime}
use Rattle.sparse_lu_laws.proofs.Orders.{HasFullOrder, more_residues}
use Rattle.sparse_lu_laws.proofs.Powers.{power, power_suc, power_modulo, power_modulo_class}
use Rattle.sparse_lu_laws.proofs.TrialDivision.{is_small_prime, small_prime}
use Rattle.sparse_lu_laws.proofs.PrimeFields.{class_inverse, one_not_zero}

-- ---- the primes that divide a product of primes

abbrev pub product : List ℕ → ℕ
product [] = 1
product (q ∷ qs) = q * product qs

-- if the prime q does not divide t, then t divides s if it divides q s
prime_cancels : (q t s : ℕ) → IsPrime q → t % q ≢ 0 → t ∣ q * s → t ∣ s
prime_cancels q t s prime other divides =
    let same : modulus q ≡ q = omega (arith, prime.above_one) in
    let b = t % q in
    let some : 0 < q = omega (arith, prime.above_one) in
    let inverse = class_inverse q prime (suc b) b (omega arith) (omega arith) (mod-lt t some) in
    let y = inverse.0.number in
    let one : ((b % modulus q) * y) % modulus q ≡ 1 % modulus q = ap (λ c. c.number) inverse.1 in
    let rest : (t * y) % q ≡ 1 = sym (mul-mod_left t y q) ∙ sym (mul-mod_left b y q)
    ∙ subst (λ n. ((b % n) * y) % n ≡ 1 % n) same one ∙ mod-eq_of_lt prime.above_one in
    let w = (t * y) / q in
    let split : t * y ≡ w * q + 1 = omega (arith, div-add-mod' (t * y) q) in
    let sum : t * (y * s) ≡ q * s * w + s = omega (arith, ap (λ x. x * s) split) in
    (dvd-add_iff_right t (dvd-mul_right_of_dvd t divides w)).1
    (subst (λ x. t ∣ x) sum (dvd-mul_right t (y * s)))

-- a divisor above one of a product of primes is divisible by one of them
prime_among : (pass : ℕ → Bool) (qs : List ℕ) (t : ℕ) → list_all is_small_prime qs ≡ true
    → list_all pass qs ≡ true → t ∣ product qs → 1 < t
    → (q : ℕ) × (q ∣ t) × (pass q ≡ true)
prime_among pass [] t primes passed divides more =
    absurd (omega (arith, eq-one_of_dvd-one divides))
prime_among pass (q ∷ qs) t primes passed divides more =
    let prime = and_parts (is_small_prime q) (list_all is_small_prime qs) primes in
    let both = and_parts (pass q) (list_all pass qs) passed in
    elim (cases_eq (t % q) 0) [
      | inl none ↦ (q, dvd_of_mod-eq-zero q none, both.0)
      | inr other ↦ prime_among pass qs t prime.1 both.1
          (prime_cancels q t (product qs) (small_prime q prime.0) other divides) more
    ]

-- ---- the test

-- whether a ^ (n / q) - 1 to the power n is one modulo n + 1, where n stands for -1
unfoldable pub passes : ℕ → ℕ → ℕ → ℕ → Bool
passes n a k q = nat_eq (power_modulo (suc n) (power_modulo (suc n) a k (n / q) + n) k n) 1

passed_power : (n a k q : ℕ) → passes n a k q ≡ true
    → power_modulo (suc n) (power_modulo (suc n) a k (n / q) + n) k n ≡ 1
unfolding passes
passed_power n a k q test = (Decides-eqb _ 1).0 test

module _ (n a k : ℕ) (some : 0 < n) (fits : n < 2 ^ k) (whole : power_modulo (suc n) a k n ≡ 1)
    (qs : List ℕ) (factors : product qs ≡ n) (primes : list_all is_small_prime qs ≡ true)
    (passed : list_all (passes n a k) qs ≡ true) where
  module _ (d : ℕ) (above : 1 < d) (divides : d ∣ suc n) where
    abbrev R : CommRing
    R = mod_ring d

    is_modulus : d ≡ modulus d
    is_modulus = omega arith

    modulus_divides : modulus d ∣ suc n
    modulus_divides = subst (λ x. x ∣ suc n) is_modulus divides

    class_of_modulus : mod_class d (1 + n) ≡ R.zero
    class_of_modulus =
        let same : 1 + n ≡ suc n = omega arith in
        mod_same d (1 + n) 0 (ap (λ x. x % modulus d) same
        ∙ mod-eq-zero_of_dvd (modulus d) modulus_divides ∙ sym (zero-mod (modulus d)))

    class_of_power : (b e : ℕ) → e < 2 ^ k
        → mod_class d (power_modulo (suc n) b k e) ≡ power R (mod_class d b) e
    class_of_power b e less = power_modulo_class (suc n) d modulus_divides b k e less

    whole_class : power R (mod_class d a) n ≡ R.one
    whole_class = sym (class_of_power a n fits) ∙ ap (mod_class d) whole

    power_of_zero : (e : ℕ) → 0 < e → power R R.zero e ≡ R.zero
    power_of_zero zero less = absurd (omega arith)
    power_of_zero (suc e) less = power_suc R R.zero e ∙ zero_mul R (power R R.zero e)

    tested_class : (q : ℕ) → passes n a k q ≡ true → power R (mod_class d a) (n / q) ≢ R.one
    tested_class q test one =
        let x = power_modulo (suc n) a k (n / q) in
        let first : mod_class d x ≡ R.one =
        class_of_power a (n / q) (omega (arith, div-le_self n q)) ∙ one in
        let none : mod_class d (x + n) ≡ R.zero = mod_class_add d x n
        ∙ ap (λ c. R.add c (mod_class d n)) first ∙ sym (mod_class_add d 1 n) ∙ class_of_modulus in
        one_not_zero d above (ap (mod_class d) (sym (passed_power n a k q test))
        ∙ class_of_power (x + n) n fits ∙ ap (λ c. power R c n) none ∙ power_of_zero n some)

    full_order : HasFullOrder R (mod_class d a) n
    full_order t divisor more =
        let found = prime_among (passes n a k) qs t primes passed
        (subst (λ x. t ∣ x) (sym factors) divisor) more in
        (found.0, found.1, tested_class found.0 found.2)

    pub only_whole : d ≡ suc n
    only_whole =
        let positive : 0 < suc n = omega arith in
        let most : d ≤ suc n = le_of_dvd positive divides in
        let least : n < d = more_residues d above (mod_class d a) n whole_class full_order in
        omega arith

  pub prime_by_generator : IsPrime (suc n)
  prime_by_generator = record {
    above_one = omega arith;
    divisors = λ d divides.
        let not_zero : d ≢ 0 = λ none.
        let nothing = eq-zero_of_zero-dvd (subst (λ x. x ∣ suc n) none divides) in
        absurd (cc) in
        elim (cases_eq d 1) [
          | inl one ↦ inl one
          | inr other ↦ inr (only_whole d (omega arith) divides)
        ];
  }
