-- Which statuses imply that the operands have no fault (`FindsNoFault`).
use Rattle.std.proofs.Common.{◌≡◌, ◌≢◌, ℕ, ℤ, pos, Result, Ok, Err, inl, inr, ap, subst, ◌∙◌, arith}
use Rattle.std.specs.Prelude.{IfErr, MatchResult, OnOk, nat_abs, List}
use Rattle.sparse_compressed.specs.Compressed.{Compressed}
use Rattle.sparse_pattern.specs.Raw.{Raw}
use Rattle.sparse_pattern.specs.declared.error.SparseFormatErrorKind.{SparseFormatErrorKind}
use Rattle.sparse_pattern.specs.declared.error.SparseFormatErrorKind.TheVariants as kinds
use Rattle.c_arrays.specs.Refused.{IsFaultOf, IsFaultOfList, IsFaultOfPair, IsFaultOfPattern}
use Rattle.c_arrays.specs.Refused.{IsFaultOfSystem, IsOutOfMemoryOr}
use Rattle.c_arrays.specs.Statuses.{number_of, refusal_of, FindsNoFault}
use Rattle.c_arrays.specs.declared.refusal.Refusal.{Refusal}
use Rattle.c_arrays.specs.declared.refusal.Refusal.TheVariants.{OutOfMemory}

-- no other number than 0, 5 and 6 is such a status
pub other : (n : ℕ) → n ≢ 0 → n ≢ 5 → n ≢ 6 → FindsNoFault (pos n) → ⊥
other n zero small singular told = elim told [
  | inl e ↦ zero (ap nat_abs e)
  | inr more ↦ elim more [
    | inl e ↦ small (ap nat_abs e)
    | inr e ↦ singular (ap nat_abs e)
  ]
]

-- ---- the status of an error that a fault of the operands gives is none of them

pub kind_finds_fault : (kind : SparseFormatErrorKind) → FindsNoFault (number_of (refusal_of kind)) → ⊥
kind_finds_fault kinds.OutOfMemory = other 1 (omega arith) (omega arith) (omega arith)
kind_finds_fault kinds.InvalidStructure = other 2 (omega arith) (omega arith) (omega arith)
kind_finds_fault kinds.IndexOutOfBounds = other 3 (omega arith) (omega arith) (omega arith)
kind_finds_fault kinds.DuplicateEntry = other 4 (omega arith) (omega arith) (omega arith)

kind_of_finds_fault : (kind : SparseFormatErrorKind) (e : Refusal) → e ≡ refusal_of kind
    → FindsNoFault (number_of e) → ⊥
kind_of_finds_fault kind e is told =
    kind_finds_fault kind (subst (λ (r : Refusal). FindsNoFault (number_of r)) is told)

pub memory_finds_fault : (e : Refusal) → e ≡ OutOfMemory → FindsNoFault (number_of e) → ⊥
memory_finds_fault e memory = kind_of_finds_fault kinds.OutOfMemory e memory

pub matrix_finds_fault : (m : Compressed ℤ) (e : Refusal) → IsFaultOf m e → FindsNoFault (number_of e) → ⊥
matrix_finds_fault m e fault = kind_of_finds_fault fault.kind e fault.is

pub pattern_finds_fault : (d : Raw) (e : Refusal) → IsFaultOfPattern d e → FindsNoFault (number_of e) → ⊥
pattern_finds_fault d e fault = kind_of_finds_fault _ e fault.is

pub list_finds_fault : (rows cols : ℕ) (is js : List ℕ) (vs : List ℤ) (e : Refusal)
    → IsFaultOfList rows cols is js vs e → FindsNoFault (number_of e) → ⊥
list_finds_fault rows cols is js vs e fault = kind_of_finds_fault fault.kind e fault.is

pub pair_finds_fault : (m n : Compressed ℤ) (e : Refusal) → IsFaultOfPair m n e
    → FindsNoFault (number_of e) → ⊥
pair_finds_fault m n e (inl fault) = matrix_finds_fault m e fault
pair_finds_fault m n e (inr fault) = matrix_finds_fault n e fault.1

pub system_finds_fault : (m : Compressed ℤ) (rows cols : ℕ) (values : List ℤ) (e : Refusal)
    → IsFaultOfSystem m rows cols values e → FindsNoFault (number_of e) → ⊥
system_finds_fault m rows cols values e (inl fault) = matrix_finds_fault m e fault
system_finds_fault m rows cols values e (inr fault) = kind_of_finds_fault kinds.InvalidStructure e fault.1.0

-- ---- so at these statuses the operands have no fault

module _ {X Sound : Type 0} {Fault : Refusal → Type 0} (P Q : X → Type 0) where
  pub FindsNoFault-sound : (answer : Result X Refusal) (status seen : ℤ) → seen ≡ status
      → OnOk answer Sound → IfErr answer (IsOutOfMemoryOr Fault)
      → ((e : Refusal) → Fault e → FindsNoFault (number_of e) → Sound)
      → (status ≡ pos 0 → MatchResult answer P (λ _. ⊥))
      → (status ≢ pos 0 → MatchResult answer Q (λ e. status ≡ number_of e))
      → FindsNoFault seen → Sound
  FindsNoFault-sound (Ok x) status seen same sound fault from_fault written refused told = sound
  FindsNoFault-sound (Err e) status seen same sound (inl memory) from_fault written refused told =
      absurd (kind_of_finds_fault kinds.OutOfMemory e memory (subst FindsNoFault (same ∙ refused written) told))
  FindsNoFault-sound (Err e) status seen same sound (inr fault) from_fault written refused told =
      from_fault e fault (subst FindsNoFault (same ∙ refused written) told)
