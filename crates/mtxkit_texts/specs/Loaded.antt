-- Matrices read from texts.
use Rattle.std.specs.Prelude.{◌≡◌, ◌⊎◌, ℕ, ℤ, List, All, map, length, Ok, Err, Bool, true, false}
use Rattle.std.specs.Int.{w64, w128}
use Rattle.std.specs.Int.RustNames.{FitsSigned}
use Rattle.sparse_algebra.specs.Algebra.{CommRing}
use Rattle.sparse_algebra.specs.Numbers.{w64_number}
use Rattle.sparse_algebra.specs.Plain.{Plain}
use Rattle.sparse_algebra.specs.Whole.{whole_ring, plain_wrapped}
use Rattle.sparse_algebra.specs.Wrapping.{wrapping_ring, class_of}
use Rattle.sparse_algebra.specs.WrappingValues.{w128_number}
use Rattle.sparse_algebra.specs.declared.scalar.wide.W128.{W128}
use Rattle.sparse_algebra.specs.declared.scalar.wrapping.W64.{W64}
use Rattle.sparse_coo_dense.specs.Coo.{Coo}
use Rattle.sparse_coo_dense.specs.CooPlain.{plain_of_coo}
use Rattle.sparse_compressed.specs.Compressed.{Compressed}
use Rattle.sparse_compressed.specs.PlainOfLanes.{plain_of_rows}
use Rattle.sparse_parser.specs.Meaning.{Means}
use Rattle.sparse_parser.specs.Scalars.{Scalar}
use Rattle.sparse_parser.specs.declared.error.MatrixMarketErrorKind.{MatrixMarketErrorKind}
use Rattle.sparse_market_scalar.specs.ScalarTypes.{pattern_scalar, signed_scalar}
use Rattle.mtxkit_texts.specs.Faults.{IsTextFault}
use Rattle.mtxkit_texts.specs.Headers.{header_in, is_pattern}
use Rattle.mtxkit_texts.specs.ListEntries.{HasEntriesOf}
use Rattle.mtxkit_texts.specs.declared.failure.Failure.{Failure}
use Rattle.mtxkit_texts.specs.declared.failure.Failure.TheVariants.{OutOfMemory, Wide}
use Rattle.mtxkit_texts.specs.declared.failure.Failure.TheVariants.{Overflow}

-- the rings of the integers modulo 2 ^ 64 and 2 ^ 128, and the elements that values represent
abbrev pub ring64 : CommRing
ring64 = wrapping_ring w64

abbrev pub value64 : W64 → ring64.Carrier
value64 x = class_of w64 (w64_number x)

abbrev pub ring128 : CommRing
ring128 = wrapping_ring w128

abbrev pub value128 : W128 → ring128.Carrier
value128 x = class_of w128 (w128_number x)

-- ---- lists

-- the text means this list of triplets, whose values are integers
abbrev pub MeansIntegers : List ℕ → Coo ℤ → Type 0
MeansIntegers text list = Means (signed_scalar w128) text (Ok list)

-- the matrix of a list, whose duplicate triplets are added
abbrev pub sums_of : Coo ℤ → Plain whole_ring
sums_of list = plain_of_coo whole_ring (λ z. z) list

-- the CSR matrix has these sums, modulo 2 ^ 128
abbrev pub HasSums : Coo ℤ → Compressed W128 → Type 0
HasSums list m = plain_of_rows ring128 value128 m ≡ plain_wrapped w128 (sums_of list)

-- the CSR matrix has these sums
abbrev pub HasExactSums : Coo ℤ → Compressed W128 → Type 0
HasExactSums list m = plain_of_rows whole_ring w128_number m ≡ sums_of list

-- each of these sums fits in 128 bits
abbrev pub HasFittingSums : Coo ℤ → Type 0
HasFittingSums list = (i j : ℕ) → FitsSigned w128 ((sums_of list).value i j)

-- the integers, and the sums of those with the same row and column, fit in 64 bits
pub record IsNarrow (list : Coo ℤ) : Type 0 where
  pub entries : All (FitsSigned w64) (map (λ t. t.2) list.triplets)
  pub sums : (i j : ℕ) → FitsSigned w64 ((sums_of list).value i j)

-- ---- matrices

-- the text means a list of `entries` triplets, and the CSR matrix has their sums modulo 2 ^ 128
pub record MeansSums (text : List ℕ) (entries : ℕ) (m : Compressed W128) : Type 0 where
  pub list : Coo ℤ
  pub counted : entries ≡ length list.triplets
  pub means : MeansIntegers text list
  pub sums : HasSums list m

-- the same with exact sums
pub record MeansWholeSums (text : List ℕ) (entries : ℕ) (m : Compressed W128) : Type 0 where
  pub list : Coo ℤ
  pub counted : entries ≡ length list.triplets
  pub means : MeansIntegers text list
  pub sums : HasExactSums list m

-- the text means a list of `entries` triplets without values, and the CSR matrix has exactly their rows and columns,
-- each with the value 1
pub record MeansOnes {T : Type 0} (R : CommRing) (f : T → R.Carrier) (text : List ℕ) (entries : ℕ)
    (m : Compressed T) : Type 0 where
  pub list : Coo (Unit {0})
  pub counted : entries ≡ length list.triplets
  pub means : Means pattern_scalar text (Ok list)
  pub pattern : HasEntriesOf list m.pattern
  pub ones : All (λ v. f v ≡ R.one) m.values

-- the one or the other, by whether the header names a pattern
abbrev pub MeansMatrixBy : Bool → List ℕ → ℕ → Compressed W128 → Type 0
MeansMatrixBy true text entries m = MeansOnes ring128 value128 text entries m
MeansMatrixBy false text entries m = MeansSums text entries m

abbrev pub MeansMatrix : List ℕ → ℕ → Compressed W128 → Type 0
MeansMatrix text entries m = MeansMatrixBy (is_pattern (header_in text)) text entries m

-- the same with exact sums
abbrev pub MeansWholeBy : Bool → List ℕ → ℕ → Compressed W128 → Type 0
MeansWholeBy true text entries m = MeansOnes ring128 value128 text entries m
MeansWholeBy false text entries m = MeansWholeSums text entries m

abbrev pub MeansWhole : List ℕ → ℕ → Compressed W128 → Type 0
MeansWhole text entries m = MeansWholeBy (is_pattern (header_in text)) text entries m

-- the text means a list of integers, and the CSR matrix with values of 64 bits has their exact sums
pub record MeansExactSums (text : List ℕ) (m : Compressed W64) : Type 0 where
  pub list : Coo ℤ
  pub means : MeansIntegers text list
  pub sums : plain_of_rows whole_ring w64_number m ≡ sums_of list

-- the same, or the value 1 for each entry if the header names a pattern
abbrev pub MeansValuesBy : Bool → List ℕ → Compressed W64 → Type 0
MeansValuesBy true text m = (entries : ℕ) × MeansOnes ring64 value64 text entries m
MeansValuesBy false text m = MeansExactSums text m

abbrev pub MeansValues : List ℕ → Compressed W64 → Type 0
MeansValues text m = MeansValuesBy (is_pattern (header_in text)) text m

-- ---- texts that have errors

-- the type of the values that are read, by whether the header names a pattern
abbrev pub scalar_read : Bool → Scalar
scalar_read true = pattern_scalar
scalar_read false = signed_scalar w128

-- the text with this number, read with values of this type, has an error, and the failure is the one for it
pub record IsRefused (S : Scalar) (number : ℕ) (text : List ℕ) (failure : Failure) : Type 0 where
  pub fault : MatrixMarketErrorKind
  pub means : Means S text (Err fault)
  pub is : IsTextFault S number text fault failure

-- the same, read with values of the field that its header names
abbrev pub IsMisread : ℕ → List ℕ → Failure → Type 0
IsMisread number text failure =
    IsRefused (scalar_read (is_pattern (header_in text))) number text failure

-- an integer of the text with this number, or a sum of those with the same row and column, does not fit in 64 bits
pub record IsWide (number : ℕ) (text : List ℕ) (failure : Failure) : Type 0 where
  pub list : Coo ℤ
  pub means : MeansIntegers text list
  pub wide : IsNarrow list → ⊥
  pub is : failure ≡ Wide number

-- a sum of integers with the same row and column in the text with this number does not fit in 128 bits
pub record IsOverflow (number : ℕ) (text : List ℕ) (failure : Failure) : Type 0 where
  pub list : Coo ℤ
  pub means : MeansIntegers text list
  pub left : HasFittingSums list → ⊥
  pub is : failure ≡ Overflow number

-- why `load` fails for the text with this number: an allocation failed, or the text has an error
abbrev pub IsLoadFailure : ℕ → List ℕ → Failure → Type 0
IsLoadFailure number text failure = (failure ≡ OutOfMemory) ⊎ IsMisread number text failure

-- why `load_values` fails: the same, or a value does not fit in 64 bits
abbrev pub IsValuesFailure : ℕ → List ℕ → Failure → Type 0
IsValuesFailure number text failure =
    (failure ≡ OutOfMemory) ⊎ (IsMisread number text failure ⊎ IsWide number text failure)

-- why `load_exact` fails: the same as for `load`, or a sum does not fit in 128 bits
abbrev pub IsWholeFailure : ℕ → List ℕ → Failure → Type 0
IsWholeFailure number text failure =
    (failure ≡ OutOfMemory) ⊎ (IsMisread number text failure ⊎ IsOverflow number text failure)
