-- The texts 0 and 1 of the field of two elements.
use Rattle.std.specs.Prelude.{zero, suc, ℤ, pos, negsuc, Bool, true, false, List, ℕ, Ok, Err}
use Rattle.std.specs.Prelude.{codes, refl}
use Rattle.std.proofs.Common.{inl}
use Rattle.nalgebra_sparse.specs.MatrixMarketErrorKind.TheVariants.{TypeMismatch}
use Rattle.nalgebra_sparse.specs.Reads.{Read, OnlyMismatch}
use Rattle.nalgebra_sparse.specs.Scalars.{Scalar, IsNumberText}

-- the element of a number in a text: 0 or 1
abbrev pub bit_of : ℤ → Read Bool
bit_of (pos zero) = Ok false
bit_of (pos (suc zero)) = Ok true
bit_of (pos (suc (suc n))) = Err TypeMismatch
bit_of (negsuc n) = Err TypeMismatch

pub bit_refuses : (z : ℤ) → OnlyMismatch (bit_of z)
bit_refuses (pos zero) = tt
bit_refuses (pos (suc zero)) = tt
bit_refuses (pos (suc (suc n))) = refl
bit_refuses (negsuc n) = refl

abbrev pub bit_text : Bool → List ℕ
bit_text true = codes "1"
bit_text false = codes "0"

pub bit_number_text : (b : Bool) → IsNumberText bit_of (bit_text b) b
bit_number_text true = record { spelled = refl; wide = refl; back = refl }
bit_number_text false = record { spelled = refl; wide = refl; back = refl }

abbrev pub bit_scalar : Scalar
bit_scalar = record {
  Value = Bool;
  from_number = bit_of;
  from_pattern = Err TypeMismatch;
  negated = λ b. Ok b;
  conjugated = λ b. Err TypeMismatch;
  name = codes "integer";
  text = bit_text;
  IsValue = λ b. Unit {0};
  number_refused = bit_refuses;
  pattern_refused = refl;
  negative_refused = λ b. tt;
  read_back = inl (refl, λ b own. bit_number_text b);
}
