-- Which statuses imply valid operands: a call with the status of Singular has operands without a fault, and its status
-- is not that of TooSmall.
use Rattle.std.proofs.Common.{◌≡◌, ◌≢◌, ◌⊎◌, ℕ, ℤ, List, inl, inr, ap, sym, subst, ◌∙◌, arith}
use Rattle.std.specs.Prelude.{nat_abs}
use Rattle.sparse_algebra.specs.Algebra.{CommRing}
use Rattle.sparse_compressed.specs.Compressed.{Compressed, IsSound}
use Rattle.sparse_pattern.specs.Raw.{Raw}
use Rattle.sparse_c.specs.Fills.{IsFaultOfFill}
use Rattle.sparse_c.specs.Systems.{IsFaultOfEquation}
use Rattle.sparse_c.specs.declared.arguments.Equation.{Equation}
use Rattle.sparse_c.specs.declared.arguments.Equation.TheVariants.{Lower, Symmetric}
use Rattle.c_arrays.proofs.ValidStatuses.{matrix_finds_fault, other, pattern_finds_fault, system_finds_fault}
use Rattle.c_arrays.specs.Refused.{IsFaultOf, IsSystemSound}
use Rattle.c_arrays.specs.Statuses.{number_of, FindsNoFault}
use Rattle.c_arrays.specs.declared.refusal.Refusal.{Refusal}
use Rattle.c_arrays.specs.declared.refusal.Refusal.TheVariants.{Singular as RefusedSingular}
use Rattle.c_arrays.specs.declared.refusal.Refusal.TheVariants.{TooSmall}
use Rattle.c_arrays.specs.declared.refusal.Refusal.TheVariants.{UnknownChoice}

-- the status of UnknownChoice is not among those of calls whose operands have no fault
refused_choice : (e : Refusal) → e ≡ UnknownChoice → FindsNoFault (number_of e) → ⊥
refused_choice e is told = other 7 (omega arith) (omega arith) (omega arith)
    (subst (λ (r : Refusal). FindsNoFault (number_of r)) is told)

pub fill_told : (number : ℤ) (d : Raw) (e : Refusal) → IsFaultOfFill number d e
    → FindsNoFault (number_of e) → ⊥
fill_told number d e (inl none) = refused_choice e none.0
fill_told number d e (inr fault) = pattern_finds_fault d e fault

singular-not_too_small : (e : Refusal) → e ≡ RefusedSingular → number_of e ≢ number_of TooSmall
singular-not_too_small e is small =
    let not_too_small : 6 ≢ 5 = omega arith in
    not_too_small (ap nat_abs (sym (ap number_of is) ∙ small))

-- for calls whose error is that of a fault of the matrix, or Singular if the matrix has none
module _ {Why : Type 0} (m : Compressed ℤ) (e : Refusal) where
  pub matrix_error-not_too_small : IsFaultOf m e ⊎ (IsSound m × (e ≡ RefusedSingular) × Why)
      → number_of e ≢ number_of TooSmall
  matrix_error-not_too_small (inl fault) small = matrix_finds_fault m e fault (inr (inl small))
  matrix_error-not_too_small (inr singular) small = singular-not_too_small e singular.1 small

  pub matrix_sound : IsFaultOf m e ⊎ (IsSound m × (e ≡ RefusedSingular) × Why)
      → FindsNoFault (number_of e) → IsSound m
  matrix_sound (inl fault) told = absurd (matrix_finds_fault m e fault told)
  matrix_sound (inr singular) told = singular.0

pub equation_sound : (R : CommRing) {T : Type 0} (f : T → R.Carrier) (equation : Equation)
    (m : Compressed ℤ) (size cols : ℕ) (b : List ℤ) (e : Refusal)
    → IsFaultOfEquation R f equation m size cols b e → FindsNoFault (number_of e)
    → IsSystemSound m size cols b
equation_sound R f (Lower transposed) m size cols b e (inl fault) told =
    absurd (system_finds_fault m size cols b e fault told)
equation_sound R f (Lower transposed) m size cols b e (inr singular) told = singular.0
equation_sound R f Symmetric m size cols b e (inl fault) told =
    absurd (system_finds_fault m size cols b e fault told)
equation_sound R f Symmetric m size cols b e (inr singular) told = singular.0
