-- The failure for a text that has an error names the line with its first fault.
use Rattle.std.proofs.Common.{◌≡◌, ◌⊎◌, ℕ, true, List, Err, refl, inl, inr}
use Rattle.sparse_parser.specs.declared.error.MatrixMarketErrorKind.{MatrixMarketErrorKind}
use Rattle.sparse_parser.specs.declared.error.MatrixMarketErrorKind.TheVariants as kinds
use Rattle.sparse_parser.specs.Meaning.{Means}
use Rattle.sparse_parser.specs.Scalars.{Scalar}
use Rattle.mtxkit_texts.specs.declared.failure.Failure.TheVariants.{Input}
use Rattle.sparse_faults.specs.declared.locations.Location.{Location}
use Rattle.mtxkit_texts.specs.Faults.{IsTextFault}
use Rattle.sparse_faults.specs.FirstFaults.{HasError, IsFirstFault}
use Rattle.mtxkit_texts.specs.Headers.{header_in, is_supported}

module _ (S : Scalar) (text : List ℕ) where
  pub has_error : (kind : MatrixMarketErrorKind)
      → (kind ≡ kinds.OutOfMemory) ⊎ Means S text (Err kind) → ¬ (kind ≡ kinds.OutOfMemory)
      → HasError S text
  has_error kind (inl e) n = absurd (n e)
  has_error kind (inr m) n = (kind, m)

  module _ (number : ℕ) (location : Location) (first : IsFirstFault S text location.line) where
    -- the header names integers or a pattern, or no field
    pub mismatch_fault : is_supported (header_in text) ≡ true
        → IsTextFault S number text kinds.TypeMismatch (Input number kinds.TypeMismatch location)
    mismatch_fault e = rw e (location, (first, refl))

    pub other_fault : (kind : MatrixMarketErrorKind) → ¬ (kind ≡ kinds.OutOfMemory)
        → ¬ (kind ≡ kinds.TypeMismatch)
        → IsTextFault S number text kind (Input number kind location)
    other_fault kinds.OutOfMemory n m = absurd (n refl)
    other_fault kinds.TypeMismatch n m = absurd (m refl)
    other_fault kinds.ParsingError n m = (location, (first, refl))
    other_fault kinds.InvalidHeader n m = (location, (first, refl))
    other_fault kinds.EntryMismatch n m = (location, (first, refl))
    other_fault kinds.ZeroError n m = (location, (first, refl))
    other_fault (kinds.SparseFormatError k) n m = (location, (first, refl))
    other_fault kinds.DiagonalError n m = (location, (first, refl))
    other_fault (kinds.IOError k) n m = (location, (first, refl))
    other_fault kinds.NotLowerTriangle n m = (location, (first, refl))
    other_fault kinds.NonSquare n m = (location, (first, refl))
