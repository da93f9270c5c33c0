-- The places of texts, also of those whose values are real or complex.
use Rattle.std.specs.Prelude.{◌≡◌, ◌≢◌, ◌⊎◌, ℕ, List, Err, false}
use Rattle.std.specs.Int.{w128}
use Rattle.sparse_algebra.specs.declared.scalar.wide.W128.{W128}
use Rattle.sparse_compressed.specs.Compressed.{Compressed}
use Rattle.sparse_market_scalar.specs.ScalarTypes.{signed_scalar}
use Rattle.sparse_parser.specs.Meaning.{Means}
use Rattle.sparse_parser.specs.declared.error.MatrixMarketErrorKind.TheVariants.{TypeMismatch}
use Rattle.mtxkit_texts.specs.Headers.{header_in, is_supported}
use Rattle.mtxkit_texts.specs.Loaded.{MeansMatrix, IsLoadFailure}
use Rattle.mtxkit_texts.specs.Ones.{IsOnesText}
use Rattle.mtxkit_texts.specs.declared.failure.Failure.{Failure}
use Rattle.mtxkit_texts.specs.declared.failure.Failure.TheVariants.{NotSupported, OutOfMemory}

-- the error of the text is that its values are real or complex
pub record IsUnsupported (text : List ℕ) : Type 0 where
  pub field : is_supported (header_in text) ≡ false
  pub means : Means (signed_scalar w128) text (Err TypeMismatch)

-- the values of the text are real or complex; the text with the value 1 in place of each of them means this matrix
pub record MeansOnesText (text : List ℕ) (entries : ℕ) (m : Compressed W128) : Type 0 where
  pub unsupported : IsUnsupported text
  pub ones : List ℕ
  pub of : IsOnesText text ones
  pub meant : MeansMatrix ones entries m

-- the matrix has the places that the text means: the text means it, or its values are real or complex
abbrev pub MeansPlaces : List ℕ → ℕ → Compressed W128 → Type 0
MeansPlaces text entries m = MeansMatrix text entries m ⊎ MeansOnesText text entries m

-- the values of the text are real or complex; the text with the value 1 in place of each of them is refused, which is
-- never that values are real or complex
pub record IsOnesFailure (number : ℕ) (text : List ℕ) (failure : Failure) : Type 0 where
  pub unsupported : IsUnsupported text
  pub ones : List ℕ
  pub of : IsOnesText text ones
  pub carried : failure ≢ NotSupported number
  pub is : IsLoadFailure number ones failure

-- why `load_places` fails for the text with this number: an allocation failed, `load` fails for another reason than
-- real or complex values, or an entry with such a value is invalid
abbrev pub IsPlacesFailure : ℕ → List ℕ → Failure → Type 0
IsPlacesFailure number text failure = (failure ≡ OutOfMemory)
    ⊎ (((failure ≢ NotSupported number) × IsLoadFailure number text failure)
    ⊎ IsOnesFailure number text failure)
