-- Calls that compute the fill of a triangle of a pattern; C names the triangle by a number.
use Rattle.std.specs.Prelude.{◌≡◌, ◌≢◌, ◌⊎◌, ℕ, ℤ, pos}
use Rattle.sparse_factor.specs.Fill.{InFill, StoresByColumns, TriangleBase}
use Rattle.sparse_factor.specs.declared.factorization.Triangle.{Triangle}
use Rattle.sparse_factor.specs.declared.factorization.Triangle.TheVariants.{Upper, Lower, Both}
use Rattle.sparse_pattern.specs.Raw.{Raw, IsValid, nnz_of}
use Rattle.c_arrays.specs.Arrays.{PatternOutputArrays, HoldsPattern}
use Rattle.c_arrays.specs.Refused.{IsFaultOfPattern, IsPatternTooSmall}
use Rattle.c_arrays.specs.declared.refusal.Refusal.{Refusal}
use Rattle.c_arrays.specs.declared.refusal.Refusal.TheVariants.{UnknownChoice}

abbrev pub triangle_number : Triangle → ℤ
triangle_number Upper = pos 0
triangle_number Lower = pos 1
triangle_number Both = pos 2

-- no triangle has this number
abbrev pub NamesNoTriangle : ℤ → Type 0
NamesNoTriangle number = (triangle : Triangle) → number ≢ triangle_number triangle

-- the error of a number that no triangle has
abbrev pub IsNoTriangle : ℤ → Refusal → Type 0
IsNoTriangle number refusal = (refusal ≡ UnknownChoice) × NamesNoTriangle number

-- l is the pattern, by columns, of the fill of the triangle with this number
pub record IsFillOf (number : ℤ) (pattern l : Raw) : Type 0 where
  pub triangle : Triangle
  pub is : number ≡ triangle_number triangle
  pub rows : l.minor_dim ≡ pattern.minor_dim
  pub columns : l.major_dim ≡ pattern.major_dim
  pub valid : IsValid l
  pub fill : StoresByColumns (InFill (TriangleBase triangle pattern)) l

-- n is the number of entries of the fill
abbrev pub CountsFill : ℤ → Raw → ℕ → Type 0
CountsFill number pattern n = (l : Raw) × IsFillOf number pattern l × (n ≡ nnz_of l)

-- the arrays start with the pattern of the fill
abbrev pub WritesFill : ℤ → Raw → PatternOutputArrays → Type 0
WritesFill number pattern room = (l : Raw) × IsFillOf number pattern l × HoldsPattern l room

-- an array is too short for the pattern of the fill
abbrev pub IsFillTooSmall : ℤ → Raw → PatternOutputArrays → Type 0
IsFillTooSmall number pattern room =
    (l : Raw) × IsFillOf number pattern l × IsPatternTooSmall l room

-- the error of the operands: no triangle has the number, or the pattern has a fault
abbrev pub IsFaultOfFill : ℤ → Raw → Refusal → Type 0
IsFaultOfFill number pattern refusal =
    IsNoTriangle number refusal ⊎ IsFaultOfPattern pattern refusal
