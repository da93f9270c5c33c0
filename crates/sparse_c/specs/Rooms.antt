-- The output arrays of a CSR matrix before and after a call over a ring.
use Rattle.std.specs.Prelude.{◌≡◌, ℕ, ℤ, pos, List}
use Rattle.sparse_algebra.specs.Plain.{Plain}
use Rattle.sparse_c.specs.Scalars.{Scalars}
use Rattle.sparse_c.specs.declared.arguments.OutputArrays as borrowed
use Rattle.c_arrays.specs.Arrays.{OutputArrays, output_arrays}
use Rattle.c_arrays.specs.Reduced.{FirstAre}
use Rattle.c_arrays.specs.Written.{WritesRows}
use Rattle.c_arrays.specs.declared.refusal.Refusal.{Refusal}

-- the contents of the arrays
abbrev pub held_in : borrowed.OutputArrays → OutputArrays
held_in r = output_arrays r.offsets.now r.indices.now r.values.now r.places.now

-- each field borrows the same array before and after a call
pub record AreSameArrays (before after : borrowed.OutputArrays) : Type 0 where
  pub offsets : after.offsets.ghost_name ≡ before.offsets.ghost_name
  pub indices : after.indices.ghost_name ≡ before.indices.ghost_name
  pub values : after.values.ghost_name ≡ before.values.ghost_name
  pub places : after.places.ghost_name ≡ before.places.ghost_name

-- at status 0 the first n numbers satisfy IsShown
pub record Shows (IsShown : ℤ → Type 0) (n : ℕ) (numbers : List ℤ) (status : ℤ) : Type 0 where
  pub each : status ≡ pos 0 → FirstAre IsShown n numbers

-- the contract of a call over a ring: Answer is true of the contents of the arrays before and after the call and of its
-- status, and the values written satisfy S.IsShown
pub record AnswersIn (S : Scalars) (Answer : OutputArrays → OutputArrays → ℤ → Type 0)
    (before after : borrowed.OutputArrays) (status : ℤ) : Type 0 where
  pub answer : Answer (held_in before) (held_in after) status
  pub shown : Shows S.IsShown after.places.now after.values.now status
  pub arrays : AreSameArrays before after

-- the contract of a call that writes a CSR matrix with the plain matrix a
abbrev pub WritesIn : (S : Scalars) → Type 0 → (Refusal → Type 0) → Plain S.ring → borrowed.OutputArrays
    → borrowed.OutputArrays → ℤ → Type 0
WritesIn S Sound Fault a = AnswersIn S (WritesRows Sound (S.IsFault Fault) a)
