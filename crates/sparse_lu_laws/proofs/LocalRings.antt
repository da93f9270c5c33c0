-- Fields are local rings, and so are the integers modulo a power of two.
use Rattle.std.proofs.Common.{◌≡◌, ℕ, zero, suc, ◌+◌, ◌-◌, ◌*◌, ◌/◌, ◌%◌, ◌^◌, inl, inr}
use Rattle.std.proofs.Common.{ap, sym, ◌∙◌, arith, subst}
use Rattle.std.proofs.lemmas.Int.{of_z-to_z}
use Rattle.std.proofs.lemmas.Nat.Gcd.{dvd-zero}
use Rattle.std.specs.Int.{Width, w8, w16, w32, w64, w128, ◌∣◌}
use Rattle.std.proofs.Math.Nat.{add-mul-mod_self_left, dvd-add, dvd-mod_iff, dvd-mul_right_of_dvd}
use Rattle.std.proofs.Math.Nat.{dvd_of_mod-eq-zero, eq-one_of_dvd-one, mod-eq_of_lt, pow-suc}
use Rattle.std.proofs.Math.Pow.{pow_pos}
use Rattle.std.proofs.lemmas.Bool.{cases_eq}
use mir.Val.{bits}
use Rattle.sparse_algebra.specs.Algebra.{CommRing}
use Rattle.sparse_algebra.specs.Inverses.{HasInverse}
use Rattle.sparse_algebra.specs.Residues.{Residue, residue, same_class, mul-mod_right}
use Rattle.sparse_algebra.specs.Residues.{same_residue}
use Rattle.sparse_algebra.specs.Whole.{number_of}
use Rattle.sparse_algebra.specs.Wrapping.{wrapping_ring, class_of}
use Rattle.sparse_algebra.proofs.RingLemmas.{zero_mul}
use Rattle.sparse_lu_laws.specs.Ranks.{IsField, IsLocal}

-- ---- fields

pub field-local : (R : CommRing) {T : Type 0} (f : T → R.Carrier) → IsField R f → IsLocal R f
field-local R f field = record {
  nonzero = field.nonzero;
  sum = λ d e no_d no_e inverse.
      no_d (field.inverse d (λ zero_d. no_e (field.inverse e (λ zero_e.
      field.nonzero (sym inverse.1
      ∙ ap (λ c. R.mul c (f inverse.0)) (ap (λ c. R.add c e) zero_d ∙ ap (R.add R.zero) zero_e
      ∙ R.laws.add_zero R.zero) ∙ zero_mul R (f inverse.0))))));
}

-- ---- integers modulo a power of two

two_divides : (w : Width) → 2 ∣ 2 ^ bits w
two_divides w8 = dvd_of_mod-eq-zero 2 (omega arith)
two_divides w16 = dvd_of_mod-eq-zero 2 (omega arith)
two_divides w32 = dvd_of_mod-eq-zero 2 (omega arith)
two_divides w64 = dvd_of_mod-eq-zero 2 (omega arith)
two_divides w128 = dvd_of_mod-eq-zero 2 (omega arith)

one_odd : (w : Width) → ¬ (2 ∣ 1 % 2 ^ bits w)
one_odd w even =
    let one : ◌≡◌ {A = ℕ} 2 1 = eq-one_of_dvd-one ((dvd-mod_iff 2 (two_divides w)).0 even) in
    absurd (omega arith)

-- if n is odd, some multiple of n is one more than a multiple of 2 ^ k
odd_multiple : (n k : ℕ) → n % 2 ≡ 1 → (y : ℕ) × (t : ℕ) × (n * y ≡ 1 + 2 ^ k * t)
odd_multiple n zero odd = (1, n - 1, omega arith)
odd_multiple n (suc k) odd =
    let before = odd_multiple n k odd in
    let y = before.0 in
    let t = before.1 in
    let p = 2 ^ k in
    let whole : n * y ≡ 1 + p * t = before.2 in
    let double : 2 ^ suc k ≡ p * 2 = omega (arith, pow-suc 2 k) in
    elim (cases_eq (t % 2) 0) [
      | inl even ↦
          let half : t ≡ 2 * (t / 2) = omega arith in
          (y, t / 2, whole ∙ ap (λ x. 1 + p * x) half ∙ omega (arith, ap (λ x. x * (t / 2)) double))
      | inr other ↦
          let half : t + n ≡ 2 * ((t + n) / 2) = omega arith in
          let more : n * (y + p) ≡ 1 + p * (t + n) = omega (arith, whole) in (
            y + p,
            (t + n) / 2,
            more ∙ ap (λ x. 1 + p * x) half
                ∙ omega (arith, ap (λ x. x * ((t + n) / 2)) double),
          )
    ]

module _ (w : Width) {T : Type 0} (f : T → Residue (2 ^ bits w))
    (represented : (c : Residue (2 ^ bits w)) → (x : T) × (f x ≡ c)) where
  abbrev R : CommRing
  R = wrapping_ring w

  odd_unit : (c : Residue (2 ^ bits w)) → c.number % 2 ≡ 1 → HasInverse R f c
  odd_unit c odd =
      let m = 2 ^ bits w in
      let multiple = odd_multiple c.number (bits w) odd in
      let scalar = represented (residue m (pow_pos (bits w)) multiple.0) in (
        scalar.0,
        ap (R.mul c) scalar.1 ∙ same_class m (pow_pos (bits w)) _ _
            (mul-mod_right c.number multiple.0 m ∙ ap (λ x. x % m) multiple.2
            ∙ add-mul-mod_self_left 1 m multiple.1),
      )

  unit_odd : (c : Residue (2 ^ bits w)) → HasInverse R f c → ¬ (2 ∣ c.number)
  unit_odd c inverse even =
      let product : (c.number * (f inverse.0).number) % 2 ^ bits w ≡ 1 % 2 ^ bits w =
      ap (λ r. r.number) inverse.1 in
      one_odd w (subst (λ n. 2 ∣ n) product
      ((dvd-mod_iff 2 (two_divides w)).1 (dvd-mul_right_of_dvd 2 even (f inverse.0).number)))

  -- without an inverse, a residue is even
  even_without : (c : Residue (2 ^ bits w)) → ¬ HasInverse R f c → 2 ∣ c.number
  even_without c none = elim (cases_eq (c.number % 2) 1) [
    | inl odd ↦ absurd (none (odd_unit c odd))
    | inr even ↦ dvd_of_mod-eq-zero 2 (omega arith)
  ]

  pub wrapping-local : IsLocal R f
  wrapping-local = record {
    nonzero = λ same. one_odd w (subst (λ n. 2 ∣ n) (sym (ap (λ r. r.number) same))
        ((dvd-mod_iff 2 (two_divides w)).1 (dvd-zero 2)));
    sum = λ d e no_d no_e inverse. unit_odd (R.add d e) inverse
        ((dvd-mod_iff 2 (two_divides w)).1
        (dvd-add 2 (even_without d no_d) (even_without e no_e)));
  }

-- the signed representative of a residue has its class
pub class_of-number_of : (w : Width) (c : Residue (2 ^ bits w)) → class_of w (number_of w c) ≡ c
class_of-number_of w c = same_residue (class_of w (number_of w c)) c
    (ap (λ n. n % 2 ^ bits w) (of_z-to_z w c.number c.below) ∙ mod-eq_of_lt c.below)
