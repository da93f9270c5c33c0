-- The scalars of this library are closed under sums and products.
use Rattle.std.specs.Prelude.{◌≡◌, ℕ, ◌%◌, ◌^◌}
use Rattle.std.specs.Int.{Width, w32, w64, w128}
use Rattle.std.proofs.Common.{ap, ◌∙◌}
use Rattle.std.proofs.Math.Nat.{mod-eq_of_lt}
use Rattle.std.proofs.lemmas.Int.{of_z-to_z}
use mir.Val.{bits}
use Rattle.sparse_algebra.specs.Algebra.{CommRing}
use Rattle.sparse_algebra.specs.ModNumbers.{mod_value}
use Rattle.sparse_algebra.specs.Moduli.{modulus, modulus_pos, mod_ring}
use Rattle.sparse_algebra.specs.Residues.{Residue, residue_itself, same_residue}
use Rattle.sparse_algebra.specs.Whole.{number_of}
use Rattle.sparse_algebra.specs.Wrapping.{wrapping_ring, class_of}
use Rattle.sparse_algebra.specs.WrappingValues.{w32_value, w64_value, w128_value}
use Rattle.sparse_algebra.proofs.WholeNumbers.{number_fits}
use Rattle.sparse_rings.specs.Closed.{IsValue}
use Rattle.sparse_rings.specs.DualRing.{dual_ring}
use Rattle.sparse_rings.specs.InnerPairs.{same_pair, same_sum}
use Rattle.sparse_rings.specs.RingValues.{dual_value}
use Rattle.sparse_rings.specs.declared.dual.Dual.{Dual}

-- ---- residues and wrapping integers represent every element

pub mod-is_value : (m : ℕ) (c : Residue (modulus m)) → IsValue (mod_ring m) mod_value c
mod-is_value m c = (
  record { number = c.number; below = c.below },
  residue_itself (modulus m) (modulus_pos m) c,
)

class-number_of : (w : Width) (c : Residue (2 ^ bits w)) → class_of w (number_of w c) ≡ c
class-number_of w c = same_residue (class_of w (number_of w c)) c
    (ap (λ n. n % 2 ^ bits w) (of_z-to_z w c.number c.below) ∙ mod-eq_of_lt c.below)

pub w32-is_value : (c : Residue (2 ^ bits w32)) → IsValue (wrapping_ring w32) w32_value c
w32-is_value c = (
  record { number = number_of w32 c; in_range = number_fits w32 c },
  class-number_of w32 c,
)

pub w64-is_value : (c : Residue (2 ^ bits w64)) → IsValue (wrapping_ring w64) w64_value c
w64-is_value c = (
  record { number = number_of w64 c; in_range = number_fits w64 c },
  class-number_of w64 c,
)

pub w128-is_value : (c : Residue (2 ^ bits w128)) → IsValue (wrapping_ring w128) w128_value c
w128-is_value c = (
  record { number = number_of w128 c; in_range = number_fits w128 c },
  class-number_of w128 c,
)

-- ---- dual numbers over closed scalars

module _ (R : CommRing) {T : Type 0} (f : T → R.Carrier)
    (sums : (x y : T) → IsValue R f (R.add (f x) (f y)))
    (products : (x y : T) → IsValue R f (R.mul (f x) (f y))) where
  -- a b + c d
  two_products : (a b c d : T) → IsValue R f (R.add (R.mul (f a) (f b)) (R.mul (f c) (f d)))
  two_products a b c d =
      let left = products a b in
      let right = products c d in
      let sum = sums left.0 right.0 in
      (sum.0, sum.1 ∙ same_sum R _ _ _ _ left.1 right.1)

  pub dual-sum : (x y : Dual T)
      → IsValue (dual_ring R) (dual_value f) ((dual_ring R).add (dual_value f x) (dual_value f y))
  dual-sum x y =
      let number = sums x.number y.number in
      let derivative = sums x.derivative y.derivative in (
        record { number = number.0; derivative = derivative.0 },
        same_pair _ _ number.1 derivative.1,
      )

  pub dual-product : (x y : Dual T)
      → IsValue (dual_ring R) (dual_value f) ((dual_ring R).mul (dual_value f x) (dual_value f y))
  dual-product x y =
      let number = products x.number y.number in
      let derivative = two_products x.number y.derivative x.derivative y.number in (
        record { number = number.0; derivative = derivative.0 },
        same_pair _ _ number.1 derivative.1,
      )
