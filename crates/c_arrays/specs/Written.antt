-- The contract of a call that writes a matrix, for each status.
use Rattle.std.specs.Prelude.{◌≡◌, ◌≢◌, ℤ, pos}
use Rattle.sparse_algebra.specs.Algebra.{CommRing}
use Rattle.sparse_algebra.specs.Plain.{Plain, plain_transpose}
use Rattle.c_arrays.specs.Arrays.{place_count, OutputArrays, HoldsRows}
use Rattle.c_arrays.specs.Refused.{IsRefused}
use Rattle.c_arrays.specs.Rests.{KeepsRest}
use Rattle.c_arrays.specs.Statuses.{number_of, FindsNoFault}
use Rattle.c_arrays.specs.Untouched.{IsUntouched}
use Rattle.c_arrays.specs.declared.refusal.Refusal.{Refusal}
use Rattle.c_arrays.specs.declared.refusal.Refusal.TheVariants.{TooSmall}

-- a call that writes the plain matrix a by rows returns this status, and leaves the arrays `before` as `after`. Sound
-- says that the operands have no fault, and Fault which error their first fault gives
pub record WritesRows {R : CommRing} (Sound : Type 0) (Fault : Refusal → Type 0) (a : Plain R)
    (before after : OutputArrays) (status : ℤ) : Type 0 where
  -- at status 0 the arrays begin with the matrix
  pub written : status ≡ pos 0 → HoldsRows a after
  -- at status 0 the arrays are unchanged after the matrix
  pub rest : status ≡ pos 0 → KeepsRest a.rows before after
  -- at 0, TOO_SMALL and SINGULAR the operands have no fault
  pub sound : FindsNoFault status → Sound
  -- at any status but 0 the arrays are unchanged
  pub untouched : status ≢ pos 0 → IsUntouched status before after
  -- at TOO_SMALL the number of entries of the matrix is written, which gives the size that is needed
  pub needed : status ≡ number_of TooSmall → after.places ≡ place_count a
  -- at any status but 0 the status is that of an error that occurred
  pub refused : status ≢ pos 0 → IsRefused Fault a before status

-- the same for a call that writes the matrix by columns, which are the rows of the transpose
abbrev pub WritesCols : {R : CommRing} → Type 0 → (Refusal → Type 0) → Plain R → OutputArrays → OutputArrays → ℤ
    → Type 0
WritesCols {R} Sound Fault a before after status =
    WritesRows Sound Fault (plain_transpose R a) before after status
