-- Powers in a commutative ring, the exponents at which a power is one, and powers modulo a number.
use Rattle.std.proofs.Common.{◌≡◌, ℕ, zero, suc, ◌+◌, ◌*◌, ◌/◌, ◌%◌, ◌^◌, ◌<◌, inl, inr}
use Rattle.std.proofs.Common.{true, false, ap, sym, ◌∙◌, refl, arith}
use Rattle.std.specs.Prelude.{nat_eq, if◌then◌else◌}
use Rattle.std.specs.Int.{◌∣◌, IsGcd}
use Rattle.std.proofs.Math.Nat.{div-add-mod', mod-lt, mod-mod_of_dvd, pow-suc}
use Rattle.std.proofs.lemmas.Bool.{cases_eq}
use Rattle.std.proofs.lemmas.Bool.Decides.{Decides-eqb}
use Rattle.std.proofs.lemmas.Nat.Gcd.{IsGcd-from_mod, IsGcd-from_zero}
use Rattle.sparse_algebra.specs.Algebra.{CommRing}
use Rattle.sparse_algebra.specs.Moduli.{modulus, mod_class, mod_ring}
use Rattle.sparse_algebra.proofs.Cases.{nat_eq_no}
use Rattle.sparse_algebra.proofs.ModClasses.{mod_class_mul, mod_same}

module _ (R : CommRing) where
  pub power : R.Carrier → ℕ → R.Carrier
  power c zero = R.one
  power c (suc n) = R.mul c (power c n)

  pub power_zero : (c : R.Carrier) → power c 0 ≡ R.one
  unfolding power
  power_zero c = refl

  pub power_suc : (c : R.Carrier) (n : ℕ) → power c (suc n) ≡ R.mul c (power c n)
  unfolding power
  power_suc c n = refl

  one_mul : (c : R.Carrier) → R.mul R.one c ≡ c
  one_mul c = R.laws.mul_comm R.one c ∙ R.laws.mul_one c

  pub power_add : (c : R.Carrier) (i j : ℕ) → power c (i + j) ≡ R.mul (power c i) (power c j)
  power_add c zero j = ap (power c) (omega arith) ∙ sym (one_mul (power c j))
      ∙ ap (λ x. R.mul x (power c j)) (sym (power_zero c))
  power_add c (suc i) j =
      let shifted : suc i + j ≡ suc (i + j) = omega arith in
      ap (power c) shifted ∙ power_suc c (i + j) ∙ ap (R.mul c) (power_add c i j)
      ∙ sym (R.laws.mul_assoc c (power c i) (power c j))
      ∙ ap (λ x. R.mul x (power c j)) (sym (power_suc c i))

  -- if c ^ i = 1, then c ^ (i j) = 1
  pub power_multiple : (c : R.Carrier) (i j : ℕ) → power c i ≡ R.one → power c (i * j) ≡ R.one
  power_multiple c i zero one = ap (power c) (omega arith) ∙ power_zero c
  power_multiple c i (suc j) one =
      let shifted : i * suc j ≡ i + i * j = omega arith in
      ap (power c) shifted ∙ power_add c i (i * j) ∙ ap (λ x. R.mul x (power c (i * j))) one
      ∙ one_mul (power c (i * j)) ∙ power_multiple c i j one

  -- if c ^ a = 1 and c ^ b = 1, then c ^ (a % b) = 1
  power_rest : (c : R.Carrier) (a b : ℕ) → power c a ≡ R.one → power c b ≡ R.one
      → power c (a % b) ≡ R.one
  power_rest c a b first second =
      let split : b * (a / b) + a % b ≡ a = omega (arith, div-add-mod' a b) in
      sym (one_mul (power c (a % b)))
      ∙ ap (λ x. R.mul x (power c (a % b))) (sym (power_multiple c b (a / b) second))
      ∙ sym (power_add c (b * (a / b)) (a % b)) ∙ ap (power c) split ∙ first

  power_gcd_below : (c : R.Carrier) (n a b : ℕ) → b < n → power c a ≡ R.one → power c b ≡ R.one
      → (g : ℕ) × IsGcd a b g × (power c g ≡ R.one)
  power_gcd_below c zero a b less first second = absurd (omega arith)
  power_gcd_below c (suc n) a b less first second = elim (cases_eq b 0) [
    | inl none ↦ (a, IsGcd-from_zero a b none, first)
    | inr some ↦
        let smaller : a % b < b = mod-lt a (let positive : 0 < b = omega arith in positive) in
        let found = power_gcd_below c n b (a % b) (omega arith) second
        (power_rest c a b first second) in
        (found.0, IsGcd-from_mod a b found.0 found.1, found.2)
  ]

  -- if c ^ a = 1 and c ^ b = 1, then c ^ g = 1 for the greatest common divisor g
  pub power_gcd : (c : R.Carrier) (a b : ℕ) → power c a ≡ R.one → power c b ≡ R.one
      → (g : ℕ) × IsGcd a b g × (power c g ≡ R.one)
  power_gcd c a b = power_gcd_below c (suc b) a b (omega arith)

-- ---- powers modulo a number

-- the square of h, times a if the bit is one
unfoldable pub squared_times : ℕ → ℕ → ℕ → ℕ → ℕ
squared_times m a bit h = if nat_eq bit 0 then (h * h) % m else (h * h * a) % m

-- a ^ e modulo m, for an exponent of k bits
unfoldable pub power_modulo : ℕ → ℕ → ℕ → ℕ → ℕ
power_modulo m a zero e = 1
power_modulo m a (suc k) e = squared_times m a (e % 2) (power_modulo m a k (e / 2))

module _ (m d : ℕ) (divides : modulus d ∣ m) where
  abbrev R : CommRing
  R = mod_ring d

  reduced_class : (x : ℕ) → mod_class d (x % m) ≡ mod_class d x
  reduced_class x = mod_same d (x % m) x (mod-mod_of_dvd (modulus d) x divides)

  squared_times_class : (a bit h e : ℕ) → bit < 2 → mod_class d h ≡ power R (mod_class d a) e
      → mod_class d (squared_times m a bit h) ≡ power R (mod_class d a) (e + e + bit)
  unfolding squared_times
  squared_times_class a bit h e less same =
      let c = mod_class d a in
      let square : mod_class d (h * h) ≡ power R c (e + e) = mod_class_mul d h h
      ∙ ap (λ x. R.mul x (mod_class d h)) same ∙ ap (R.mul (power R c e)) same
      ∙ sym (power_add R c e e) in
      elim (cases_eq bit 0) [
        | inl even ↦
            let test : nat_eq bit 0 ≡ true = (Decides-eqb bit 0).1 even in
            rw test (reduced_class (h * h) ∙ square ∙ ap (power R c) (omega arith))
        | inr odd ↦
            let test : nat_eq bit 0 ≡ false = nat_eq_no bit 0 odd in
            rw test (reduced_class (h * h * a) ∙ mod_class_mul d (h * h) a
            ∙ ap (λ x. R.mul x c) square ∙ R.laws.mul_comm (power R c (e + e)) c
            ∙ sym (power_suc R c (e + e)) ∙ ap (power R c) (omega arith))
      ]

  -- the class of the computed power is the power of the class
  pub power_modulo_class : (a k e : ℕ) → e < 2 ^ k
      → mod_class d (power_modulo m a k e) ≡ power R (mod_class d a) e
  unfolding power_modulo
  power_modulo_class a zero e less =
      sym (power_zero R (mod_class d a)) ∙ ap (power R (mod_class d a)) (omega arith)
  power_modulo_class a (suc k) e less =
      let half : e / 2 < 2 ^ k = omega (arith, pow-suc 2 k) in
      let split : e / 2 + e / 2 + e % 2 ≡ e = omega arith in
      squared_times_class a (e % 2) (power_modulo m a k (e / 2)) (e / 2) (omega arith)
      (power_modulo_class a k (e / 2) half) ∙ ap (power R (mod_class d a)) split
