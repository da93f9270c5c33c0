-- The residue classes of integers modulo 2 ^ 128.
use Rattle.std.proofs.Common.{◌≡◌, ℤ, ap, sym, ◌∙◌}
use Rattle.std.specs.Int.{w128}
use Rattle.std.specs.Int.RustNames.{FitsSigned}
use Rattle.std.proofs.lemmas.Int.{int_wrap_fits}
use Rattle.sparse_algebra.specs.Integers.{element_of}
use Rattle.sparse_algebra.specs.Whole.{wrapped}
use Rattle.sparse_algebra.specs.Wrapping.{wrapping_ring, class_of, class_one_to_one}
use Rattle.sparse_algebra.proofs.WholeNumbers.{wrapped-IsRingMap}
use Rattle.mtxkit_eval.proofs.IntegerImages.{map-integer}

-- the class of a signed integer of 128 bits is its image
pub element_of-wide : (z : ℤ) → FitsSigned w128 z → class_of w128 z ≡ element_of (wrapping_ring w128) z
element_of-wide z fits = ap (class_of w128) (sym (int_wrap_fits w128 z fits))
    ∙ map-integer (wrapping_ring w128) (wrapped w128) (wrapped-IsRingMap w128) z

-- integers of 128 bits with the same image are equal
pub same-wide : (x y : ℤ) → FitsSigned w128 x → FitsSigned w128 y
    → element_of (wrapping_ring w128) x ≡ element_of (wrapping_ring w128) y → x ≡ y
same-wide x y f g e =
    class_one_to_one w128 x y f g (element_of-wide x f ∙ e ∙ sym (element_of-wide y g))
