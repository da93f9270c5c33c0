-- Matrices that are written with their rows and columns permuted alike.
use Rattle.std.specs.Prelude.{◌≡◌, ◌≢◌, ◌⊎◌, ℕ, List, length, Bool, true, false}
use Rattle.sparse_algebra.specs.declared.scalar.wrapping.W64.{W64}
use Rattle.sparse_compressed.specs.Compressed.{Compressed, IsSound}
use Rattle.sparse_compressed.specs.PlainOfLanes.{plain_of_rows}
use Rattle.sparse_pattern.specs.Raw.{Raw}
use Rattle.sparse_permutation.specs.PermutedPatterns.{IsPermutedPattern}
use Rattle.sparse_permutation.specs.PermutedPlain.{plain_permuted}
use Rattle.mtxkit_texts.specs.Headers.{header_in, is_pattern}
use Rattle.mtxkit_texts.specs.AnyField.{IsPlacesFailure}
use Rattle.mtxkit_texts.specs.Loaded.{MeansValues, IsValuesFailure, ring64, value64}
use Rattle.mtxkit_texts.specs.Rewritten.{IsIntegerText, IsPatternText}
use Rattle.mtxkit_patterns.specs.Orders.{MeansOrder, MeansPattern, IsMisordered}
use Rattle.mtxkit_patterns.specs.declared.order_error.OrderError.{OrderError}
use Rattle.mtxkit_patterns.specs.declared.order_error.OrderError.TheVariants.{Failed, NotSquare}
use Rattle.mtxkit_patterns.specs.declared.order_error.OrderError.TheVariants.{OtherLength}

-- the text of P A Pᵀ for the pattern A that the text means
pub record WritesPermutedPattern (order text written : List ℕ) : Type 0 where
  pub pattern : Raw
  pub permuted : Raw
  pub meant : MeansPattern text pattern
  pub square : pattern.major_dim ≡ pattern.minor_dim
  pub rows : pattern.major_dim ≡ length order
  pub is : IsPermutedPattern order pattern permuted
  pub text_is : IsPatternText permuted written

-- the text of P A Pᵀ for the matrix A of integers that the text means
pub record WritesPermutedMatrix (order text written : List ℕ) : Type 0 where
  pub matrix : Compressed W64
  pub permuted : Compressed W64
  pub meant : MeansValues text matrix
  pub square : matrix.pattern.major_dim ≡ matrix.pattern.minor_dim
  pub rows : matrix.pattern.major_dim ≡ length order
  pub is : plain_of_rows ring64 value64 permuted
      ≡ plain_permuted ring64 order (plain_of_rows ring64 value64 matrix)
  pub sound : IsSound permuted
  pub text_is : IsIntegerText permuted written

-- the one or the other, by whether the header names a pattern
abbrev pub WritesPermutedBy : Bool → List ℕ → List ℕ → List ℕ → Type 0
WritesPermutedBy true order text written = WritesPermutedPattern order text written
WritesPermutedBy false order text written = WritesPermutedMatrix order text written

-- the text of P A Pᵀ, for the permutation P that the first text means and the matrix A of the second one
abbrev pub WritesPermuted : List ℕ → List ℕ → List ℕ → Type 0
WritesPermuted first text written = (order : List ℕ) × (MeansOrder first order
    × WritesPermutedBy (is_pattern (header_in text)) order text written)

-- why the order does not permute a matrix of this shape
abbrev pub IsMisfit : List ℕ → ℕ → ℕ → OrderError → Type 0
IsMisfit order nrows ncols (NotSquare n) = (n ≡ 2) × (nrows ≢ ncols)
IsMisfit order nrows ncols (OtherLength n) = (n ≡ 1) × ((nrows ≡ ncols) × (nrows ≢ length order))
IsMisfit order nrows ncols error = ⊥

-- why the order does not permute the pattern or the matrix of the second text
abbrev pub IsMisfitPattern : List ℕ → List ℕ → OrderError → Type 0
IsMisfitPattern order text (Failed failure) = IsPlacesFailure 2 text failure
IsMisfitPattern order text error = (p : Raw)
    × (MeansPattern text p × IsMisfit order p.major_dim p.minor_dim error)

abbrev pub IsMisfitMatrix : List ℕ → List ℕ → OrderError → Type 0
IsMisfitMatrix order text (Failed failure) = IsValuesFailure 2 text failure
IsMisfitMatrix order text error = (m : Compressed W64)
    × (MeansValues text m × IsMisfit order m.pattern.major_dim m.pattern.minor_dim error)

abbrev pub IsMisfitBy : Bool → List ℕ → List ℕ → OrderError → Type 0
IsMisfitBy true order text error = IsMisfitPattern order text error
IsMisfitBy false order text error = IsMisfitMatrix order text error

-- why the matrix of the second text is not permuted by the order of the first one
abbrev pub IsUnpermuted : List ℕ → List ℕ → OrderError → Type 0
IsUnpermuted first text error = IsMisordered 1 first error ⊎ ((order : List ℕ)
    × (MeansOrder first order × IsMisfitBy (is_pattern (header_in text)) order text error))
