-- The residues modulo a prime are a field.
use Rattle.std.proofs.Common.{◌≡◌, ◌≢◌, ℕ, zero, suc, ◌*◌, ◌/◌, ◌%◌, ◌<◌, inl, inr, ap, sym, ◌∙◌}
use Rattle.std.proofs.Common.{arith}
use Rattle.std.proofs.Math.Nat.{div-add-mod', dvd_of_mod-eq-zero, mod-eq_of_lt, mod-lt, zero-mod}
use Rattle.std.proofs.lemmas.Bool.{cases_eq}
use Rattle.sparse_algebra.specs.Algebra.{CommRing}
use Rattle.sparse_algebra.specs.ModNumbers.{mod_value}
use Rattle.sparse_algebra.specs.Moduli.{modulus, modulus_pos, mod_class, mod_ring}
use Rattle.sparse_algebra.specs.Residues.{residue_itself, same_residue}
use Rattle.sparse_algebra.specs.declared.scalar.residues.Mod.{Mod}
use Rattle.sparse_algebra.proofs.ModClasses.{mod_class_add, mod_class_mul, mod_class_modulus}
use Rattle.sparse_algebra.proofs.Products.{mul_neg, mul_swap}
use Rattle.sparse_algebra.proofs.RingLemmas.{neg_unique, distrib_right}
use Rattle.sparse_dense_ops.proofs.RingSteps.{mul_off}
use Rattle.sparse_lu_laws.specs.Primes.{IsPrime}
use Rattle.sparse_lu_laws.specs.Ranks.{IsField}

-- if q b + c = 0 and c z = 1, then b times -(q z) is one
combined_inverse : (R : CommRing) (q b c z : R.Carrier) → R.add (R.mul q b) c ≡ R.zero
    → R.mul c z ≡ R.one → R.mul b (R.neg (R.mul q z)) ≡ R.one
combined_inverse R q b c z none one =
    mul_neg R b (R.mul q z)
    ∙ sym (neg_unique R (R.mul b (R.mul q z)) (R.mul c z)
    (ap (λ x. R.add x (R.mul c z)) (mul_swap R b q z ∙ sym (R.laws.mul_assoc q b z))
    ∙ sym (distrib_right R (R.mul q b) c z) ∙ mul_off R (R.add (R.mul q b) c) z none))
    ∙ one

pub one_not_zero : (m : ℕ) → 1 < m → (mod_ring m).one ≢ (mod_ring m).zero
one_not_zero m more same =
    let above : 1 < modulus m = omega arith in
    let numbers : 1 % modulus m ≡ 0 % modulus m = ap (λ c. c.number) same in
    absurd (omega (arith, mod-eq_of_lt above, zero-mod (modulus m)))

module _ (m : ℕ) (prime : IsPrime m) where
  abbrev R : CommRing
  R = mod_ring m

  modulus_is : modulus m ≡ m
  modulus_is = omega (arith, prime.above_one)

  -- m = (m / b) b + m % b, whose class is zero
  class_of_prime : (b : ℕ)
      → R.add (R.mul (mod_class m (m / b)) (mod_class m b)) (mod_class m (m % b)) ≡ R.zero
  class_of_prime b =
      ap (λ c. R.add c (mod_class m (m % b))) (sym (mod_class_mul m (m / b) b))
      ∙ sym (mod_class_add m (m / b * b) (m % b)) ∙ ap (mod_class m) (div-add-mod' m b)
      ∙ ap (mod_class m) (sym modulus_is) ∙ mod_class_modulus m

  rest_positive : (b : ℕ) → 1 < b → b < m → m % b ≢ 0
  rest_positive b more less none = elim (prime.divisors b (dvd_of_mod-eq-zero b none)) [
    | inl one ↦ omega arith
    | inr whole ↦ omega arith
  ]

  -- the inverse of b follows from that of m % b, which is less than b
  pub class_inverse : (n b : ℕ) → b < n → 0 < b → b < m
      → (z : R.Carrier) × (R.mul (mod_class m b) z ≡ R.one)
  class_inverse zero b under some less = absurd (omega arith)
  class_inverse (suc n) b under some less = elim (cases_eq b 1) [
    | inl one ↦ (R.one, R.laws.mul_one (mod_class m b) ∙ ap (mod_class m) one)
    | inr other ↦
        let rest = m % b in
        let smaller : rest < b = mod-lt m some in
        let positive = rest_positive b (omega arith) less in
        let inverse = class_inverse n rest (omega arith) (omega arith) (omega arith) in (
          R.neg (R.mul (mod_class m (m / b)) inverse.0),
          combined_inverse R (mod_class m (m / b)) (mod_class m b) (mod_class m rest) inverse.0
              (class_of_prime b) inverse.1,
        )
  ]

  pub prime-field : IsField R (mod_value {m = m})
  prime-field = record {
    nonzero = one_not_zero m prime.above_one;
    inverse = λ e some.
        let positive : e.number ≢ 0 = λ none. some (same_residue e R.zero
        (none ∙ sym (zero-mod (modulus m)))) in
        let found = class_inverse (suc e.number) e.number (omega arith) (omega arith)
        (omega (arith, e.below, modulus_is)) in
        let scalar : Mod m = record { number = found.0.number; below = found.0.below } in (
          scalar,
          ap (R.mul e) (residue_itself (modulus m) (modulus_pos m) found.0)
              ∙ ap (λ c. R.mul c found.0) (sym (residue_itself (modulus m) (modulus_pos m) e))
              ∙ found.1,
        );
  }
