-- Calls that write a dense matrix, and products with a dense matrix.
use Rattle.std.specs.Prelude.{◌≡◌, ◌≢◌, ◌<◌, ◌*◌, ℤ, List, ℕ, length, pos}
use Rattle.sparse_algebra.specs.Algebra.{CommRing}
use Rattle.sparse_algebra.specs.Plain.{Plain, plain_product}
use Rattle.sparse_coo_dense.specs.DensePlain.{plain_full}
use Rattle.sparse_c.specs.Rooms.{Shows}
use Rattle.sparse_c.specs.Scalars.{Scalars}
use Rattle.sparse_c.specs.declared.arguments.DenseOperands.{DenseOperands}
use Rattle.sparse_c.specs.declared.arguments.Numbers.{Numbers}
use Rattle.c_arrays.specs.Arrays.{plain_by_rows, plain_by_values, HoldsDense}
use Rattle.c_arrays.specs.Refused.{IsFaultOfSystem, IsRefusedFor, IsSystemSound}
use Rattle.c_arrays.specs.Rests.{KeepsBehind}
use Rattle.c_arrays.specs.Statuses.{FindsNoFault}
use Rattle.c_arrays.specs.declared.refusal.Refusal.{Refusal}

-- the contract of a call that writes n numbers to an array, with the array before and after the call, and its status.
-- Sound: the operands have no fault; Fault: the error of their first fault; Holds: what is written to the array at
-- status 0; Small: the array is too small
pub record WritesValues (Sound : Type 0) (Fault : Refusal → Type 0) (Holds Small : List ℤ → Type 0)
    (n : ℕ) (before after : List ℤ) (status : ℤ) : Type 0 where
  pub written : status ≡ pos 0 → Holds after
  pub rest : status ≡ pos 0 → KeepsBehind n before after
  pub sound : FindsNoFault status → Sound
  pub untouched : status ≢ pos 0 → after ≡ before
  pub refused : status ≢ pos 0 → IsRefusedFor Fault (Small before) status

-- the same for a call over a ring, which writes only numbers that satisfy S.IsShown
pub record WritesNumbers (S : Scalars) (Sound : Type 0) (Fault : Refusal → Type 0)
    (Holds Small : List ℤ → Type 0) (n : ℕ) (before after : Numbers) (status : ℤ) : Type 0 where
  pub answer : WritesValues Sound (S.IsFault Fault) Holds Small n before.values.now after.values.now
      status
  pub shown : Shows S.IsShown n after.values.now status
  pub array : after.values.ghost_name ≡ before.values.ghost_name

-- the array is too short for a dense matrix of this shape
abbrev pub IsDenseTooLong : ℕ → ℕ → List ℤ → Type 0
IsDenseTooLong rows cols values = length values < rows * cols

-- the product as a dense matrix: all pairs within its shape are places
abbrev pub product_of : (R : CommRing) → DenseOperands → Plain R
product_of R f = plain_full R (plain_product R (plain_by_rows R f.a)
    (plain_by_values R f.inner f.cols f.b.now))

-- the contract of a call that multiplies by a dense matrix
abbrev pub MultipliesDense : Scalars → DenseOperands → Numbers → Numbers → ℤ → Type 0
MultipliesDense S f = WritesNumbers S (IsSystemSound f.a f.inner f.cols f.b.now)
    (IsFaultOfSystem f.a f.inner f.cols f.b.now) (HoldsDense (product_of S.ring f))
    (IsDenseTooLong f.a.pattern.major_dim f.cols) (f.a.pattern.major_dim * f.cols)
