-- The images of integers in rings of residues.
use Rattle.std.proofs.Common.{◌≡◌, ℕ, zero, suc, pred, ℤ, pos, negsuc}
use Rattle.std.proofs.Common.{◌+◌, ◌-◌, ◌<◌, ◌%◌, ◌^◌, ap, sym}
use Rattle.std.proofs.Common.{◌∙◌, ◌≤◌, ◌-ℤ◌, unsigned_abs, to_z, of_z, true, false, refl, arith}
use Rattle.std.proofs.Math.Nat.{add-mod, mod-eq_of_lt}
use Rattle.std.proofs.Math.Pow.{pow_pos}
use Rattle.std.proofs.lemmas.Int.{to_z_pos, to_z-of_z, ints}
use Rattle.std.specs.Int.{w64}
use Rattle.std.specs.Int.Signed.{lt_z}
use Rattle.std.specs.Int.RustNames.{FitsSigned}
use Rattle.sparse_algebra.proofs.ModClasses.{mod_class_neg, mod_class_of}
use Rattle.sparse_algebra.specs.Moduli.{modulus, modulus_pos, mod_class, mod_ring}
use Rattle.sparse_algebra.specs.Residues.{residue, residues, same_class}
use Rattle.sparse_algebra.specs.Wrapping.{wrapping_ring, class_of}
use Rattle.sparse_algebra.specs.Integers.{times_one, element_of}

module _ (m : ℕ) (some : 0 < m) where
  pub times_one-residue : (n : ℕ) → times_one (residues m some) n ≡ residue m some n
  unfolding times_one
  times_one-residue zero = refl
  times_one-residue (suc n) = ap (λ a. (residues m some).add a (residue m some 1))
      (times_one-residue n)
      ∙ same_class m some (n % m + 1 % m) (suc n)
      (sym (add-mod n 1 m) ∙ ap (λ k. k % m) (omega arith))

-- the residue class of a signed 64-bit integer is its image
pub element_of-class : (z : ℤ) → FitsSigned w64 z
    → class_of w64 z ≡ element_of (wrapping_ring w64) z
unfolding element_of
element_of-class (pos n) fits = sym (times_one-residue (2 ^ 64) (pow_pos 64) n)
element_of-class (negsuc n) fits =
    let m = 2 ^ 64 in
    let small = fits.sfits in
    let below : suc n < m = omega (arith, small) in
    same_class m (pow_pos 64) (m - suc n) (m - suc n % m)
    (ap (λ k. (m - k) % m) (sym (mod-eq_of_lt below)))
    ∙ ap (λ a. residue m (pow_pos 64) (m - a.number))
    (sym (times_one-residue m (pow_pos 64) (suc n)))

-- ---- residues modulo m

module _ (m : ℕ) where
  -- the image of an integer z >= 0 is the residue of its absolute value
  pub element_of-from_zero : (z : ℤ) (n : ℕ) → lt_z z (pos 0) ≡ false
      → n ≡ unsigned_abs z % modulus m
      → mod_class m n ≡ element_of (mod_ring m) z
  unfolding element_of
  element_of-from_zero (pos k) n sign size = mod_class_of m k n size
      ∙ sym (times_one-residue (modulus m) (modulus_pos m) k)
  element_of-from_zero (negsuc k) n sign size = absurd (grind (arith, ints))

  -- the image of an integer z < 0 is the negated residue of its absolute value
  pub element_of-below_zero : (z : ℤ) (n : ℕ) → lt_z z (pos 0) ≡ true
      → n ≡ unsigned_abs z % modulus m
      → (mod_ring m).neg (mod_class m n) ≡ element_of (mod_ring m) z
  unfolding element_of
  element_of-below_zero (pos k) n sign size = absurd (grind (arith, ints))
  element_of-below_zero (negsuc k) n sign size = ap (mod_ring m).neg (mod_class_of m (suc k) n size
      ∙ sym (times_one-residue (modulus m) (modulus_pos m) (suc k)))

module _ (m n : ℕ) where
  -- n, below 2 ^ 63, is read as the integer n
  pub element_of-short : n ≤ 9223372036854775807
      → element_of (mod_ring m) (to_z w64 n) ≡ mod_class m n
  unfolding element_of
  element_of-short le =
      ap (element_of (mod_ring m)) (to_z_pos w64 n (omega arith))
      ∙ times_one-residue (modulus m) (modulus_pos m) n

  -- n, from 2 ^ 63 on, is read as the integer n - m
  pub element_of-long : n < modulus m → 9223372036854775807 < n → m < 2 ^ 64
      → element_of (mod_ring m) (to_z w64 (of_z w64 (pos 0 -ℤ to_z w64 (m - n)))) ≡ mod_class m n
  unfolding element_of
  element_of-long below long fits =
      let gap = m - n in
      let whole : suc (pred gap) ≡ gap = omega arith in
      let less : suc (pred gap) < modulus m = omega arith in
      let rest : modulus m - suc (pred gap) ≡ n = omega arith in
      let below_zero : pos 0 -ℤ pos (suc (pred gap)) ≡ negsuc (pred gap) = omega (arith, ints) in
      let shown : to_z w64 (of_z w64 (pos 0 -ℤ to_z w64 gap)) ≡ negsuc (pred gap) =
      ap (λ z. to_z w64 (of_z w64 (pos 0 -ℤ z))) (to_z_pos w64 gap (omega arith))
      ∙ ap (λ k. to_z w64 (of_z w64 (pos 0 -ℤ pos k))) (sym whole)
      ∙ ap (λ z. to_z w64 (of_z w64 z)) below_zero
      ∙ to_z-of_z w64 (negsuc (pred gap)) (record { sfits = omega arith }) in
      ap (element_of (mod_ring m)) shown
      ∙ ap (mod_ring m).neg (times_one-residue (modulus m) (modulus_pos m) (suc (pred gap)))
      ∙ sym (mod_class_neg m (suc (pred gap)) less) ∙ ap (mod_class m) rest
