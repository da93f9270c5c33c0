-- The text of `mtxkit symmetric`.
use Rattle.std.specs.Prelude.{◌≡◌, ◌≢◌, ◌⊎◌, ℕ, ℤ, List, ◌++◌, codes, Option, Some, None, Ok}
use Rattle.std.specs.Prelude.{Bool, true, false}
use Rattle.std.specs.List.{filter}
use Rattle.sparse_algebra.specs.Algebra.{CommRing}
use Rattle.sparse_algebra.specs.declared.scalar.wide.W128.{W128}
use Rattle.sparse_algebra.specs.declared.scalar.wrapping.W64.{W64}
use Rattle.sparse_compressed.specs.Compressed.{Compressed, lane_triplets}
use Rattle.sparse_compressed.specs.Filter.{is_lower, HasShapeOf}
use Rattle.sparse_compressed.specs.PlainOfLanes.{plain_of_rows}
use Rattle.sparse_coo_dense.specs.Coo.{Coo}
use Rattle.sparse_market_scalar.specs.ScalarTypes.{pattern_scalar}
use Rattle.sparse_parser.specs.Meaning.{Means}
use Rattle.sparse_pattern.specs.Raw.{Raw}
use Rattle.mtxkit_matrices.specs.Coordinates.{dimensions_of}
use Rattle.mtxkit_matrices.specs.Differences.{IsFirstAsymmetry}
use Rattle.mtxkit_matrices.specs.Values.{IsSymmetricMatrix}
use Rattle.mtxkit_matrices.specs.declared.coordinates.Coordinates.{Coordinates}
use Rattle.mtxkit_texts.specs.Loaded.{MeansMatrix, MeansValues, ring64, value64, ring128, value128}
use Rattle.mtxkit_texts.specs.Loaded.{MeansIntegers, IsLoadFailure, IsNarrow, IsValuesFailure}
use Rattle.mtxkit_texts.specs.declared.failure.Failure.{Failure}
use Rattle.mtxkit_texts.specs.declared.failure.Failure.TheVariants.{NotSquare, NotSymmetric, Wide}
use Rattle.sparse_parser.specs.declared.header.Field.{Field}
use Rattle.sparse_parser.specs.declared.header.Field.TheVariants.{Pattern}
use Rattle.sparse_parser.specs.declared.header.Header.{Header}
use Rattle.mtxkit_texts.specs.Headers.{header_in, is_mirrored}
use Rattle.mtxkit_texts.specs.Rewritten.{IsIntegerText, IsPatternText}
use Rattle.mtxkit_texts.specs.Rewritten.{WritesIntegers, WritesPattern}

-- the header line with this field and this symmetry
abbrev pub head : List ℕ → List ℕ → List ℕ
head name last = codes "%%MatrixMarket matrix coordinate " ++ (name ++ last)

-- two texts that differ only in the symmetry of the header line: `general` and `symmetric`
pub record IsSymmetricForm (name general symmetric : List ℕ) : Type 0 where
  pub rest : List ℕ
  pub from : general ≡ head name (codes " general\n") ++ rest
  pub to : symmetric ≡ head name (codes " symmetric\n") ++ rest

-- the text of a lower triangle with its values, whose header line says `symmetric`
abbrev pub IsSymmetricIntegers : Compressed W64 → List ℕ → Type 0
IsSymmetricIntegers lower written = (general : List ℕ)
    × (IsIntegerText lower general × IsSymmetricForm (codes "integer") general written)

-- the same without values
abbrev pub IsSymmetricPattern : Raw → List ℕ → Type 0
IsSymmetricPattern lower written = (general : List ℕ)
    × (IsPatternText lower general × IsSymmetricForm (codes "pattern") general written)

-- the matrix is symmetric, and `lower` has its shape and its entries on and below the diagonal
pub record IsLowerOf {T : Type 0} (R : CommRing) (f : T → R.Carrier) (matrix lower : Compressed T)
    : Type 0 where
  pub is : IsSymmetricMatrix R (plain_of_rows R f matrix)
  pub sizes : HasShapeOf matrix lower
  pub kept : lane_triplets lower ≡ filter is_lower (lane_triplets matrix)

-- the text of the lower triangle of the symmetric pattern that the text means
pub record WritesLowerPattern (text written : List ℕ) : Type 0 where
  pub entries : ℕ
  pub matrix : Compressed W128
  pub lower : Compressed W128
  pub meant : MeansMatrix text entries matrix
  pub part : IsLowerOf ring128 value128 matrix lower
  pub form : IsSymmetricPattern lower.pattern written

-- the text of the lower triangle of the symmetric matrix that the text means, with its values
pub record WritesLowerIntegers (text written : List ℕ) : Type 0 where
  pub matrix : Compressed W64
  pub lower : Compressed W64
  pub meant : MeansValues text matrix
  pub part : IsLowerOf ring64 value64 matrix lower
  pub form : IsSymmetricIntegers lower written

-- the same, as a pattern if the field is `pattern`, and otherwise with integers
abbrev pub WritesLower : Field → List ℕ → List ℕ → Type 0
WritesLower Pattern text written = WritesLowerPattern text written
WritesLower field text written = WritesLowerIntegers text written

abbrev pub WritesField : Field → List ℕ → List ℕ → Type 0
WritesField Pattern text written = WritesPattern text written
WritesField field text written = WritesIntegers text written

-- the text of all entries, or that of the lower triangle
abbrev pub WritesAll : Bool → Field → List ℕ → List ℕ → Type 0
WritesAll true field text written = WritesField field text written
WritesAll false field text written = WritesLower field text written

-- the text of all entries if the header names a symmetry, and otherwise that of the lower triangle
abbrev pub SymmetrisedUnder : Header → List ℕ → List ℕ → Type 0
SymmetrisedUnder h text written = WritesAll (is_mirrored h.symmetry) h.field text written

-- the same for the header of the text, if it has one
abbrev pub Symmetrised : Option Header → List ℕ → List ℕ → Type 0
Symmetrised (Some h) text written = SymmetrisedUnder h text written
Symmetrised None text written = WritesIntegers text written

-- the failure has the dimensions of the pattern that the text means, which is not square
abbrev pub IsOblongPattern : List ℕ → Failure → Type 0
IsOblongPattern text failure = (list : Coo (Unit {0})) × (Means pattern_scalar text (Ok list)
    × ((list.nrows ≢ list.ncols) × (failure ≡ NotSquare (dimensions_of list))))

-- the failure has the dimensions of the matrix of integers that the text means, which is not square
abbrev pub IsOblongIntegers : List ℕ → Failure → Type 0
IsOblongIntegers text failure = (list : Coo ℤ) × (MeansIntegers text list
    × ((list.nrows ≢ list.ncols) × (failure ≡ NotSquare (dimensions_of list))))

-- the matrix is square, and the failure says where it differs from its transpose, at first row by row
abbrev pub IsAsymmetry : {T : Type 0} (R : CommRing) → (T → R.Carrier) → Compressed T → Failure
    → Type 0
IsAsymmetry R f m failure = (m.pattern.major_dim ≡ m.pattern.minor_dim) × ((at : Coordinates)
    × ((failure ≡ NotSymmetric at) × IsFirstAsymmetry R (plain_of_rows R f m) at.row at.col))

-- the failure says why the pattern that the text means is not symmetric
abbrev pub IsUnsymmetricPattern : List ℕ → Failure → Type 0
IsUnsymmetricPattern text failure = IsOblongPattern text failure ⊎ ((entries : ℕ)
    × ((m : Compressed W128) × (MeansMatrix text entries m × IsAsymmetry ring128 value128 m failure)))

-- the failure says why the matrix of integers that the text means is not symmetric
abbrev pub IsUnsymmetricIntegers : List ℕ → Failure → Type 0
IsUnsymmetricIntegers text failure = IsOblongIntegers text failure ⊎ ((m : Compressed W64)
    × (MeansValues text m × IsAsymmetry ring64 value64 m failure))

-- the matrix of integers that the text means is square, and an integer of the text, or a sum of those with the same row
-- and column, does not fit in 64 bits
pub record IsSquareWide (text : List ℕ) (failure : Failure) : Type 0 where
  pub list : Coo ℤ
  pub means : MeansIntegers text list
  pub square : list.nrows ≡ list.ncols
  pub wide : IsNarrow list → ⊥
  pub is : failure ≡ Wide 1

-- why the values of a square matrix are not loaded: an allocation failed, the text has an error, or a value does not
-- fit in 64 bits
abbrev pub IsSquareFailure : List ℕ → Failure → Type 0
IsSquareFailure text failure = IsLoadFailure 1 text failure ⊎ IsSquareWide text failure

-- why the lower triangle is not written: the matrix is not loaded, or not symmetric. Of a matrix that is not square no
-- value is too wide
abbrev pub IsLowerFailure : Field → List ℕ → Failure → Type 0
IsLowerFailure Pattern text failure =
    IsLoadFailure 1 text failure ⊎ IsUnsymmetricPattern text failure
IsLowerFailure field text failure =
    IsSquareFailure text failure ⊎ IsUnsymmetricIntegers text failure

abbrev pub IsFieldFailure : Field → List ℕ → Failure → Type 0
IsFieldFailure Pattern text failure = IsLoadFailure 1 text failure
IsFieldFailure field text failure = IsValuesFailure 1 text failure

-- why all entries are not written, or the lower triangle
abbrev pub IsAllFailure : Bool → Field → List ℕ → Failure → Type 0
IsAllFailure true field text failure = IsFieldFailure field text failure
IsAllFailure false field text failure = IsLowerFailure field text failure

-- why `symmetric_text` fails for a text with this header
abbrev pub IsHeaderFailure : Header → List ℕ → Failure → Type 0
IsHeaderFailure h text failure = IsAllFailure (is_mirrored h.symmetry) h.field text failure

abbrev pub IsSymmetricFailureUnder : Option Header → List ℕ → Failure → Type 0
IsSymmetricFailureUnder (Some h) text failure = IsHeaderFailure h text failure
IsSymmetricFailureUnder None text failure = IsValuesFailure 1 text failure

-- why `symmetric_text` fails
abbrev pub IsSymmetricFailure : List ℕ → Failure → Type 0
IsSymmetricFailure text failure = IsSymmetricFailureUnder (header_in text) text failure
