-- Orders that texts mean, and orders of patterns.
use Rattle.std.specs.Prelude.{◌≡◌, ◌≢◌, ◌⊎◌, ℕ, ℤ, pos, ◌+◌, List, map, length}
use Rattle.std.specs.Int.{w128}
use Rattle.sparse_coo_dense.specs.Coo.{Coo}
use Rattle.sparse_compressed.specs.Compressed.{Compressed}
use Rattle.sparse_algebra.specs.declared.scalar.wide.W128.{W128}
use Rattle.sparse_market_scalar.specs.ScalarTypes.{signed_scalar}
use Rattle.sparse_pattern.specs.Raw.{Raw}
use Rattle.sparse_permutation.specs.PermutationFaults.{IsFirstFault}
use Rattle.sparse_permutation.specs.Permutations.{IsOrder}
use Rattle.sparse_permutation.specs.declared.error.PermutationError.{PermutationError}
use Rattle.sparse_permutation.specs.declared.error.PermutationError.TheVariants.{IndexOutOfBounds}
use Rattle.sparse_permutation.specs.declared.error.PermutationError.TheVariants.{RepeatedIndex}
use Rattle.sparse_permutation.specs.declared.error.PermutationError.TheVariants as permutation
use Rattle.mtxkit_texts.specs.AnyField.{MeansPlaces, IsPlacesFailure}
use Rattle.mtxkit_texts.specs.Loaded.{MeansIntegers, IsRefused}
use Rattle.mtxkit_texts.specs.declared.failure.Failure.TheVariants.{OutOfMemory}
use Rattle.mtxkit_patterns.specs.OrderLists.{IsColumn, numbers_of, index_of}
use Rattle.mtxkit_patterns.specs.OrderTexts.{order_text}
use Rattle.mtxkit_patterns.specs.declared.order_error.OrderError.{OrderError}
use Rattle.mtxkit_patterns.specs.declared.order_error.OrderError.TheVariants.{Failed, NotSquare}
use Rattle.mtxkit_patterns.specs.declared.order_error.OrderError.TheVariants.{NotColumn, OutOfRange}
use Rattle.mtxkit_patterns.specs.declared.order_error.OrderError.TheVariants.{Repeated, OtherLength}

-- ---- orders that texts mean

-- the text means a column of numbers, which are the indices of the permutation counted from 1
pub record MeansOrder (text order : List ℕ) : Type 0 where
  pub list : Coo ℤ
  pub means : MeansIntegers text list
  pub column : IsColumn list
  pub numbers : numbers_of list ≡ map (λ i. pos (i + 1)) order
  pub valid : IsOrder order

-- the error for a list that is not a permutation, which is that of the text with this number
abbrev pub order_error : ℕ → PermutationError → OrderError
order_error number (IndexOutOfBounds k) = OutOfRange number k
order_error number (RepeatedIndex k) = Repeated number k
order_error number permutation.OutOfMemory = Failed OutOfMemory

-- the text means a column of numbers whose first fault this is: as indices counted from 1 they are no permutation
pub record HasOrderFault (text : List ℕ) (fault : PermutationError) : Type 0 where
  pub list : Coo ℤ
  pub means : MeansIntegers text list
  pub column : IsColumn list
  pub first : IsFirstFault (map index_of (numbers_of list)) fault

-- the text means a matrix that is no such column
pub record HasNoColumn (text : List ℕ) : Type 0 where
  pub list : Coo ℤ
  pub means : MeansIntegers text list
  pub column : IsColumn list → ⊥

-- why the text with this number does not mean an order
abbrev pub IsMisordered : ℕ → List ℕ → OrderError → Type 0
IsMisordered number text (Failed failure) =
    (failure ≡ OutOfMemory) ⊎ IsRefused (signed_scalar w128) number text failure
IsMisordered number text (NotSquare n) = ⊥
IsMisordered number text (NotColumn n) = (n ≡ number) × HasNoColumn text
IsMisordered number text (OutOfRange n k) =
    (n ≡ number) × HasOrderFault text (IndexOutOfBounds k)
IsMisordered number text (Repeated n k) = (n ≡ number) × HasOrderFault text (RepeatedIndex k)
IsMisordered number text (OtherLength n) = ⊥

-- ---- orders of patterns

-- the pattern is the one that the text means, also if its values are real or complex
abbrev pub MeansPattern : List ℕ → Raw → Type 0
MeansPattern text p = (entries : ℕ) × (m : Compressed W128)
    × (MeansPlaces text entries m × (m.pattern ≡ p))

-- the text means a pattern that is not square
abbrev pub MeansOblong : List ℕ → Type 0
MeansOblong text = (p : Raw) × (MeansPattern text p × (p.major_dim ≢ p.minor_dim))

-- why the pattern of the text with this number is not taken as a square one
abbrev pub IsNoSquare : ℕ → List ℕ → OrderError → Type 0
IsNoSquare number text (Failed failure) = IsPlacesFailure number text failure
IsNoSquare number text (NotSquare n) = (n ≡ number) × MeansOblong text
IsNoSquare number text error = ⊥

-- the text of a permutation of the rows of the square matrix that the text means
pub record WritesOrder (text written : List ℕ) : Type 0 where
  pub pattern : Raw
  pub order : List ℕ
  pub meant : MeansPattern text pattern
  pub square : pattern.major_dim ≡ pattern.minor_dim
  pub valid : IsOrder order
  pub rows : length order ≡ pattern.major_dim
  pub is : written ≡ order_text order
