-- The texts of `mtxkit field` and `mtxkit copy`.
use Rattle.std.specs.Prelude.{◌≡◌, ℕ, List, Bool, true, false, codes}
use Rattle.std.specs.Fmt.{signed_decimal}
use Rattle.sparse_algebra.specs.Numbers.{w64_number}
use Rattle.sparse_algebra.specs.declared.scalar.wide.W128.{W128}
use Rattle.sparse_algebra.specs.declared.scalar.wrapping.W64.{W64}
use Rattle.sparse_coo_dense.specs.Coo.{Coo, coo_of}
use Rattle.sparse_compressed.specs.Compressed.{Compressed, lane_triplets}
use Rattle.sparse_io.specs.Written.{text_with}
use Rattle.sparse_io.specs.declared.banner.Banner.TheVariants.{MixedCase}
use Rattle.sparse_pattern.specs.Raw.{Raw}
use Rattle.mtxkit_texts.specs.AnyField.{MeansPlaces}
use Rattle.mtxkit_texts.specs.Headers.{header_in, is_pattern}
use Rattle.mtxkit_texts.specs.Loaded.{MeansMatrix, MeansValues, IsLoadFailure, IsValuesFailure}
use Rattle.mtxkit_texts.specs.PatternTexts.{pattern_text}
use Rattle.mtxkit_texts.specs.declared.failure.Failure.{Failure}

-- the triplets of a CSR matrix, row by row
abbrev pub listed : {T : Type 0} → Compressed T → Coo T
listed m = coo_of m.pattern.major_dim m.pattern.minor_dim (lane_triplets m)

-- the text of the matrix with its values
abbrev pub IsIntegerText : Compressed W64 → List ℕ → Type 0
IsIntegerText m written =
    written ≡ text_with MixedCase (codes "integer") (λ v. signed_decimal (w64_number v)) (listed m)

-- the text of a pattern
abbrev pub IsPatternText : Raw → List ℕ → Type 0
IsPatternText pattern written = written ≡ pattern_text pattern

-- the text of the matrix that the text means, with its values
abbrev pub WritesIntegers : List ℕ → List ℕ → Type 0
WritesIntegers text written =
    (m : Compressed W64) × (MeansValues text m × IsIntegerText m written)

-- the text of the pattern of the matrix that the text means
abbrev pub WritesPattern : List ℕ → List ℕ → Type 0
WritesPattern text written = (entries : ℕ) × ((m : Compressed W128)
    × (MeansMatrix text entries m × IsPatternText m.pattern written))

-- the text of the pattern that the text means, also if its values are real or complex
abbrev pub WritesPlaces : List ℕ → List ℕ → Type 0
WritesPlaces text written = (entries : ℕ) × ((m : Compressed W128)
    × (MeansPlaces text entries m × IsPatternText m.pattern written))

-- the one or the other, by whether the header names a pattern
abbrev pub WritesCopyBy : Bool → List ℕ → List ℕ → Type 0
WritesCopyBy true text written = WritesPattern text written
WritesCopyBy false text written = WritesIntegers text written

abbrev pub WritesCopy : List ℕ → List ℕ → Type 0
WritesCopy text written = WritesCopyBy (is_pattern (header_in text)) text written

-- why `copy_text` fails
abbrev pub IsCopyFailureBy : Bool → List ℕ → Failure → Type 0
IsCopyFailureBy true text failure = IsLoadFailure 1 text failure
IsCopyFailureBy false text failure = IsValuesFailure 1 text failure

abbrev pub IsCopyFailure : List ℕ → Failure → Type 0
IsCopyFailure text failure = IsCopyFailureBy (is_pattern (header_in text)) text failure
