-- Why a line is refused. What the line must be depends on the stage.
use Rattle.std.specs.Prelude.{◌≡◌, ◌≢◌, ◌⊎◌, ℕ, true, false, List, [], Option, None}
use Rattle.sparse_parser.specs.declared.header.Format.{Format}
use Rattle.sparse_parser.specs.declared.header.Header.{Header}
use Rattle.sparse_parser.specs.InnerReading.{is_content}
use Rattle.mtxkit_matrices.specs.declared.decimals.error.ScaleError.{ScaleError}
use Rattle.mtxkit_matrices.specs.declared.decimals.error.ScaleError.TheVariants as errors
use Rattle.mtxkit_matrices.specs.declared.decimals.number.Misfit.TheVariants as misfits
use Rattle.mtxkit_matrices.specs.declared.decimals.stage.Stage.{Stage}
use Rattle.mtxkit_matrices.specs.declared.decimals.stage.Stage.TheVariants.{Head, Sizes, Entries}
use Rattle.mtxkit_matrices.specs.Decimals.{IsMisfit}
use Rattle.sparse_faults.specs.LineFaults.{IsSizesFault}
use Rattle.mtxkit_matrices.specs.ScaleFailures.{IsHeaderFault, HasOtherField, HasMisfit}
use Rattle.mtxkit_matrices.specs.ScaleFailures.{is_decimal_entry}

-- the value in the line with this number is refused
abbrev pub IsValueFailure : ℕ → ℕ → List ℕ → ScaleError → Type 0
IsValueFailure scale number value (errors.Fraction n least) =
    (n ≡ number) × IsMisfit (misfits.Fraction least) scale value
IsValueFailure scale number value (errors.Range n) =
    (n ≡ number) × IsMisfit misfits.Range scale value
IsValueFailure scale number value e = ⊥

-- the line with this number and these words is not a header of decimal numbers
abbrev pub IsHeadFailure : ℕ → List (List ℕ) → ScaleError → Type 0
IsHeadFailure number words (errors.Header at) =
    (at.line ≡ number) × IsHeaderFault words at.fault
IsHeadFailure number words (errors.Field n) = (n ≡ number) × HasOtherField words
IsHeadFailure number words errors.OutOfMemory = Unit {0}
IsHeadFailure number words e = ⊥

-- the line is not a size line for this header
abbrev pub IsSizesFailure : Header → ℕ → List (List ℕ) → ScaleError → Type 0
IsSizesFailure h number words (errors.Sizes at) =
    (at.line ≡ number) × IsSizesFault h words at.fault
IsSizesFailure h number words errors.OutOfMemory = Unit {0}
IsSizesFailure h number words e = ⊥

-- the line is not a data line of this format, or its value is refused
abbrev pub IsEntryFailure : ℕ → Format → ℕ → List (List ℕ) → ScaleError → Type 0
IsEntryFailure scale format number words (errors.Entry n) =
    (n ≡ number) × (is_decimal_entry format words ≡ false)
IsEntryFailure scale format number words (errors.Fraction n least) =
    (n ≡ number) × HasMisfit (misfits.Fraction least) scale format words
IsEntryFailure scale format number words (errors.Range n) =
    (n ≡ number) × HasMisfit misfits.Range scale format words
IsEntryFailure scale format number words errors.OutOfMemory = Unit {0}
IsEntryFailure scale format number words e = ⊥

-- the words are those of a line that is neither blank nor a comment
pub record AreContent (words : List (List ℕ)) : Type 0 where
  pub some : words ≢ []
  pub content : is_content words ≡ true

-- at this stage the line with this number and these words has a fault, or an allocation failed
abbrev pub IsLineFailure : ℕ → Stage → ℕ → List (List ℕ) → ScaleError → Type 0
IsLineFailure scale Head number words e = IsHeadFailure number words e
IsLineFailure scale (Sizes h) number words e =
    (e ≡ errors.OutOfMemory) ⊎ (AreContent words × IsSizesFailure h number words e)
IsLineFailure scale (Entries h) number words e =
    (e ≡ errors.OutOfMemory) ⊎ (AreContent words × IsEntryFailure scale h.format number words e)

-- the least scale of the value that is refused as a fraction, if one is and has one
abbrev pub next_scale : ScaleError → Option ℕ
next_scale (errors.Fraction n least) = least
next_scale e = None
