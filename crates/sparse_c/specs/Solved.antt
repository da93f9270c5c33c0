-- Calls that solve a triangular system, or divide a matrix by an integer, over arrays.
use Rattle.std.specs.Prelude.{◌≡◌, ◌≢◌, ◌≤◌, ◌⊎◌, ℕ, ℤ, ◌*◌, ◌<◌, Bool, true, false, List, length}
use Rattle.std.specs.Prelude.{pos, take}
use Rattle.sparse_algebra.specs.Algebra.{CommRing}
use Rattle.sparse_algebra.specs.Inverses.{HasInverse}
use Rattle.sparse_algebra.specs.Plain.{Plain, plain_scaled, plain_transpose}
use Rattle.sparse_compressed.specs.Compressed.{Compressed, IsSound}
use Rattle.sparse_dense_ops.specs.Solutions.{plain_lower, IsSingular, IsSolution}
use Rattle.sparse_c.specs.Rooms.{AnswersIn}
use Rattle.sparse_c.specs.Scalars.{Scalars}
use Rattle.sparse_c.specs.declared.arguments.Quotient.{Quotient}
use Rattle.sparse_c.specs.declared.arguments.OutputArrays as borrowed
use Rattle.c_arrays.specs.Arrays.{plain_by_cols, plain_by_rows, plain_by_values}
use Rattle.c_arrays.specs.Arrays.{place_count, OutputArrays, HoldsRows}
use Rattle.sparse_algebra.specs.Integers.{element_of}
use Rattle.c_arrays.specs.Refused.{IsFaultOf, IsFaultOfSystem, IsRefusedFor, IsSystemSound}
use Rattle.c_arrays.specs.Refused.{IsTooSmall}
use Rattle.c_arrays.specs.Rests.{KeepsRest}
use Rattle.c_arrays.specs.Statuses.{number_of, FindsNoFault}
use Rattle.c_arrays.specs.Untouched.{IsUntouched}
use Rattle.c_arrays.specs.declared.refusal.Refusal.{Refusal}
use Rattle.c_arrays.specs.declared.refusal.Refusal.TheVariants.{Singular, TooSmall}

module _ (R : CommRing) where
  -- a, or its transpose if the flag is set
  abbrev pub transposed_if : Bool → Plain R → Plain R
  transposed_if false a = a
  transposed_if true a = plain_transpose R a

  -- the lower triangle of a CSC matrix, with the diagonal, or the transpose of this triangle
  abbrev pub lower_of : Bool → Compressed ℤ → Plain R
  lower_of transposed m = transposed_if transposed (plain_lower R (plain_by_cols R m))

  -- the array starts with the values of a dense matrix with n rows and m columns that satisfies P
  pub record HoldsMatrix (P : Plain R → Type 0) (n m : ℕ) (values : List ℤ) : Type 0 where
    pub room : n * m ≤ length values
    pub holds : P (plain_by_values R n m (take (n * m) values))

  -- some matrix satisfies P, and the array is too short for n rows and m columns
  abbrev pub IsMatrixTooLong : (Plain R → Type 0) → ℕ → ℕ → List ℤ → Type 0
  IsMatrixTooLong P n m values = (x : Plain R) × P x × (length values < n * m)

  -- q is the inverse of s, times a
  abbrev pub IsQuotientBy : R.Carrier → Plain R → Plain R → Type 0
  IsQuotientBy s q a = (y : R.Carrier) × (R.mul s y ≡ R.one) × (q ≡ plain_scaled R y a)

  -- the arrays start with the quotient of the CSR matrix and the integer
  unfoldable pub WritesQuotient : Compressed ℤ → ℤ → OutputArrays → Type 0
  WritesQuotient a divisor room = (q : Plain R)
      × IsQuotientBy (element_of R divisor) q (plain_by_rows R a) × HoldsRows q room

  -- n is the number of places of a quotient
  abbrev pub CountsQuotient : Compressed ℤ → ℤ → ℕ → Type 0
  CountsQuotient a divisor n = (q : Plain R)
      × IsQuotientBy (element_of R divisor) q (plain_by_rows R a) × (n ≡ place_count q)

  -- there is a quotient for which an array is too short
  abbrev pub IsQuotientTooSmall : Compressed ℤ → ℤ → OutputArrays → Type 0
  IsQuotientTooSmall a divisor room = (q : Plain R)
      × IsQuotientBy (element_of R divisor) q (plain_by_rows R a) × IsTooSmall q room

module _ (R : CommRing) {T : Type 0} (f : T → R.Carrier) where
  -- there is a column to solve for, and some diagonal entry of the CSC matrix is missing or has no inverse
  abbrev pub IsSingularLower : Compressed ℤ → ℕ → Type 0
  IsSingularLower m cols = (0 < cols) × IsSingular R f (plain_lower R (plain_by_cols R m))

  -- the system is not singular, and t x = b for the lower triangle t of the CSC matrix, or its transpose if the flag is
  -- set
  pub record SolvesLower (transposed : Bool) (m : Compressed ℤ) (cols : ℕ) (x b : Plain R)
      : Type 0 where
    pub regular : IsSingularLower m cols → ⊥
    pub solves : IsSolution R (lower_of R transposed m) x b

  -- the array starts with the values of such an x with this many rows and columns
  abbrev pub HoldsSolution : Bool → Compressed ℤ → ℕ → ℕ → Plain R → List ℤ → Type 0
  HoldsSolution transposed m rows cols b =
      HoldsMatrix R (λ x. SolvesLower transposed m cols x b) rows cols

  -- there is such an x, and the array is too short for it
  abbrev pub IsSolutionTooLong : Bool → Compressed ℤ → ℕ → ℕ → Plain R → List ℤ → Type 0
  IsSolutionTooLong transposed m rows cols b =
      IsMatrixTooLong R (λ x. SolvesLower transposed m cols x b) rows cols

  -- the error of the first fault of the CSC matrix or of the right-hand side; or Singular if they have none and the
  -- system is singular
  abbrev pub IsFaultOfLower : Compressed ℤ → ℕ → ℕ → List ℤ → Refusal → Type 0
  IsFaultOfLower m size cols b refusal = IsFaultOfSystem m size cols b refusal
      ⊎ (IsSystemSound m size cols b × (refusal ≡ Singular) × IsSingularLower m cols)

  -- the error of the first fault of the matrix, or Singular if it has none and the divisor has no inverse
  abbrev pub IsFaultOfQuotient : Compressed ℤ → ℤ → Refusal → Type 0
  IsFaultOfQuotient m divisor refusal = IsFaultOf m refusal
      ⊎ (IsSound m × (refusal ≡ Singular) × (HasInverse R f (element_of R divisor) → ⊥))

-- the contract of a call that divides a CSR matrix by an integer, with the arrays before and after the call, and its
-- status. Fault: the error of the call
pub record Divides (R : CommRing) (Fault : Refusal → Type 0) (a : Compressed ℤ) (divisor : ℤ)
    (before after : OutputArrays) (status : ℤ) : Type 0 where
  pub written : status ≡ pos 0 → WritesQuotient R a divisor after
  pub rest : status ≡ pos 0 → KeepsRest a.pattern.major_dim before after
  pub sound : FindsNoFault status → IsSound a
  pub untouched : status ≢ pos 0 → IsUntouched status before after
  pub needed : status ≡ number_of TooSmall → CountsQuotient R a divisor after.places
  pub refused : status ≢ pos 0 → IsRefusedFor Fault (IsQuotientTooSmall R a divisor before) status

-- the same for a call over a ring, which writes only numbers that satisfy S.IsShown
abbrev pub DividesIn : Scalars → Quotient → borrowed.OutputArrays → borrowed.OutputArrays → ℤ → Type 0
DividesIn S q = AnswersIn S (Divides S.ring
    (S.IsFault (IsFaultOfQuotient S.ring S.value q.a q.divisor)) q.a q.divisor)
