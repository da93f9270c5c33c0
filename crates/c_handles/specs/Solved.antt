-- Triangular systems with the matrix that a handle holds, solved in place in the array of the right-hand side.
use Rattle.std.specs.Prelude.{◌≡◌, ◌≢◌, ◌⊎◌, ◌<◌, ◌*◌, ℕ, ℤ}
use Rattle.std.specs.Prelude.{Bool, true, false, List, Option, length}
use Rattle.sparse_algebra.specs.Plain.{Plain, plain_transpose}
use Rattle.sparse_algebra.specs.WrappingValues.{w64_value}
use Rattle.sparse_algebra.specs.declared.scalar.wrapping.W64.{W64}
use Rattle.c_arrays.specs.Arrays.{plain_by_values, ring64}
use Rattle.c_arrays.specs.Refused.{HasWrongLength}
use Rattle.c_arrays.specs.declared.refusal.Refusal.{Refusal}
use Rattle.c_arrays.specs.declared.refusal.Refusal.TheVariants.{ShapeMismatch, Singular}
use Rattle.sparse_compressed.specs.Compressed.{Compressed}
use Rattle.c_handles.specs.Held.{plain_held, IsEmpty}
use Rattle.c_handles.specs.declared.solving.Triangle.{Triangle}
use Rattle.c_handles.specs.declared.solving.Triangle.TheVariants.{Lower, Upper}
use Rattle.sparse_factor.specs.Factorisations.{plain_upper}
use Rattle.sparse_dense_ops.specs.Solutions.{plain_lower, IsSingular, IsSolution}

-- the triangle of a matrix on and below its diagonal, or on and above it
abbrev pub part_of : Triangle → Plain ring64 → Plain ring64
part_of Lower a = plain_lower ring64 a
part_of Upper a = plain_upper ring64 a

-- a triangle of a matrix, or its transpose if the flag is set
abbrev pub triangle_of : Triangle → Bool → Plain ring64 → Plain ring64
triangle_of triangle false a = part_of triangle a
triangle_of triangle true a = plain_transpose ring64 (part_of triangle a)

-- the matrix for its lower triangle, and the transpose for its upper triangle: the lower triangle of the result is the
-- given triangle, or its transpose
abbrev pub as_lower : Triangle → Plain ring64 → Plain ring64
as_lower Lower a = a
as_lower Upper a = plain_transpose ring64 a

-- the array has the values of B, with n rows and m columns, before the call, and those of X after it, where t X = B
pub record SolvesInPlace (t : Plain ring64) (n m : ℕ) (before after : List ℤ) : Type 0 where
  pub sized : length before ≡ n * m
  pub solves : IsSolution ring64 t (plain_by_values ring64 n m after)
      (plain_by_values ring64 n m before)

-- the error if the handle is empty, or its matrix is not square
abbrev pub IsNoSquare : Option (Compressed W64) → Refusal → Type 0
IsNoSquare a refusal = IsEmpty a refusal
    ⊎ ((refusal ≡ ShapeMismatch) × ((plain_held a).rows ≢ (plain_held a).cols))

abbrev pub IsSquare : Plain ring64 → Type 0
IsSquare a = a.rows ≡ a.cols

-- the error if the handle holds no square matrix, or else the right-hand side does not have m values for each row
abbrev pub IsNoSystem : Option (Compressed W64) → ℕ → List ℤ → Refusal → Type 0
IsNoSystem a m b refusal = IsNoSquare a refusal
    ⊎ (IsSquare (plain_held a) × HasWrongLength (plain_held a).rows m b refusal)

-- there is a column to solve for, and some diagonal entry is missing or has no inverse
abbrev pub IsSingularSystem : Triangle → Plain ring64 → ℕ → Type 0
IsSingularSystem triangle a m = (0 < m) × IsSingular ring64 w64_value (part_of triangle a)

-- the error Singular of such a system
abbrev pub IsSingularPart : Triangle → Plain ring64 → ℕ → Refusal → Type 0
IsSingularPart triangle a m refusal = (refusal ≡ Singular) × IsSingularSystem triangle a m

-- the matrix is square, the system is not singular, and the array has B before the call and X after it, where t X = B
-- for the triangle t of the matrix, or its transpose if the flag is set
pub record SolvesTriangle (triangle : Triangle) (transposed : Bool) (a : Plain ring64) (m : ℕ)
    (before after : List ℤ) : Type 0 where
  pub square : IsSquare a
  pub regular : IsSingularSystem triangle a m → ⊥
  pub solved : SolvesInPlace (triangle_of triangle transposed a) a.rows m before after

-- the error of a triangular solve: the operands are not those of a square system, or else its triangle is singular
abbrev pub IsUnsolved : Triangle → Option (Compressed W64) → ℕ → List ℤ → Refusal → Type 0
IsUnsolved triangle a m b refusal = IsNoSystem a m b refusal ⊎ (IsSquare (plain_held a)
    × (length b ≡ (plain_held a).rows * m) × IsSingularPart triangle (plain_held a) m refusal)
