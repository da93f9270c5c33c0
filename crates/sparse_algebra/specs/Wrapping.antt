-- A signed number of w bits, read as its residue class modulo 2 ^ bits w.
use Rattle.std.specs.Prelude.{◌≡◌, ℕ, ℤ, pos, ◌+◌, ◌-◌, ◌*◌, ◌%◌, ◌^◌, ◌<◌, ◌↔◌, true}
use Rattle.std.specs.Int.{Width, cast_unsigned, cast_signed, int_wrapping_add, int_wrapping_mul}
use Rattle.std.specs.Int.{int_wrapping_neg}
use Rattle.std.specs.Int.RustNames.{FitsSigned}
use Rattle.std.specs.Ordering.{int_eq}
use Rattle.std.proofs.Common.{sym, ap, ◌∙◌, refl}
use Rattle.std.proofs.Math.Nat.{mod-lt, mod-eq_of_lt, mod-mod, add-mod}
use Rattle.std.proofs.Math.Facts.{Fits-of_z}
use Rattle.std.proofs.Math.Pow.{pow_pos}
use Rattle.std.proofs.lemmas.Int.{of_z-to_z, to_z-of_z}
use Rattle.std.proofs.lemmas.Bool.Decides.{Decides-int_eq}
use mir.Val.{bits, hbits}
use Rattle.sparse_algebra.specs.Algebra.{CommRing}
use Rattle.sparse_algebra.specs.Residues.{Residue, residue, residues, same_class, mul-mod_left}
use Rattle.sparse_algebra.specs.Residues.{mul-mod_right}

abbrev pub wrapping_ring : Width → CommRing
wrapping_ring w = residues (2 ^ bits w) (pow_pos (bits w))

abbrev pub class_of : (w : Width) → ℤ → Residue (2 ^ bits w)
class_of w z = residue (2 ^ bits w) (pow_pos (bits w)) (cast_unsigned w z)

-- a number below 2 ^ bits w and its signed reading have the same class
pub class_of_bits : (w : Width) (n : ℕ)
    → class_of w (cast_signed w (n % 2 ^ bits w)) ≡ residue (2 ^ bits w) (pow_pos (bits w)) n
class_of_bits w n =
    let small : n % 2 ^ bits w < 2 ^ bits w = mod-lt n (pow_pos (bits w)) in
    same_class (2 ^ bits w) (pow_pos (bits w)) _ _
    (ap (λ x. x % 2 ^ bits w) (of_z-to_z w (n % 2 ^ bits w) small) ∙ mod-mod n (2 ^ bits w))

-- the bits of a number in the signed range are below 2 ^ bits w
pub unsigned_below : (w : Width) (z : ℤ) → FitsSigned w z → cast_unsigned w z < 2 ^ bits w
unsigned_below w z f = (Fits-of_z f).fits

module _ (w : Width) (x y r : ℤ) where
  pub class_of_add : r ≡ int_wrapping_add w x y
      → class_of w r ≡ (wrapping_ring w).add (class_of w x) (class_of w y)
  class_of_add e =
      ap (class_of w) e ∙ class_of_bits w (cast_unsigned w x + cast_unsigned w y)
      ∙ same_class (2 ^ bits w) (pow_pos (bits w)) _ _
      (add-mod (cast_unsigned w x) (cast_unsigned w y) (2 ^ bits w))

  pub class_of_mul : r ≡ int_wrapping_mul w x y
      → class_of w r ≡ (wrapping_ring w).mul (class_of w x) (class_of w y)
  class_of_mul e =
      ap (class_of w) e ∙ class_of_bits w (cast_unsigned w x * cast_unsigned w y)
      ∙ same_class (2 ^ bits w) (pow_pos (bits w)) _ _
      (sym (mul-mod_left (cast_unsigned w x) (cast_unsigned w y % 2 ^ bits w) (2 ^ bits w)
      ∙ mul-mod_right (cast_unsigned w x) (cast_unsigned w y) (2 ^ bits w)))

pub class_of_neg : (w : Width) (x r : ℤ) → FitsSigned w x → r ≡ int_wrapping_neg w x
    → class_of w r ≡ (wrapping_ring w).neg (class_of w x)
class_of_neg w x r f e =
    ap (class_of w) e ∙ class_of_bits w (2 ^ bits w - cast_unsigned w x)
    ∙ same_class (2 ^ bits w) (pow_pos (bits w)) _ _
    (ap (λ n. (2 ^ bits w - n) % 2 ^ bits w) (sym (mod-eq_of_lt (unsigned_below w x f))))

pub class_one_to_one : (w : Width) (x y : ℤ) → FitsSigned w x → FitsSigned w y
    → class_of w x ≡ class_of w y → x ≡ y
class_one_to_one w x y f g e =
    let p : cast_unsigned w x % 2 ^ bits w ≡ cast_unsigned w y % 2 ^ bits w =
    ap (λ a. a.number) e in
    let q : cast_unsigned w x ≡ cast_unsigned w y = sym (mod-eq_of_lt (unsigned_below w x f)) ∙ p
    ∙ mod-eq_of_lt (unsigned_below w y g) in
    sym (to_z-of_z w x f) ∙ ap (cast_signed w) q ∙ to_z-of_z w y g

pub class_decides : (w : Width) (x y : ℤ) → FitsSigned w x → FitsSigned w y
    → (int_eq x y ≡ true) ↔ (class_of w x ≡ class_of w y)
class_decides w x y f g = (
  λ e. ap (class_of w) ((Decides-int_eq x y).0 e),
  λ e. (Decides-int_eq x y).1 (class_one_to_one w x y f g e),
)

pub fits_zero : (w : Width) → FitsSigned w (pos 0)
fits_zero w = record { sfits = pow_pos (hbits w) }

pub class_of_zero : (w : Width) → class_of w (pos 0) ≡ (wrapping_ring w).zero
class_of_zero w = refl

pub class_of_one : (w : Width) → class_of w (pos 1) ≡ (wrapping_ring w).one
class_of_one w = refl
