-- The facts and the text of `mtxkit info`.
use Rattle.std.specs.Prelude.{◌≡◌, ◌≢◌, ◌⊎◌, ℕ, pos, Bool, true, false, List, ◌++◌, codes}
use Rattle.std.specs.Ordering.{int_eq}
use Rattle.sparse_algebra.specs.WrappingValues.{w128_number}
use Rattle.sparse_algebra.specs.declared.scalar.wide.W128.{W128}
use Rattle.sparse_compressed.specs.Compressed.{Compressed}
use Rattle.mtxkit_matrices.specs.FactLines.{answer, line, count_line}
use Rattle.mtxkit_matrices.specs.FactLines.{count_lines, symmetry_lines, histogram_lines}
use Rattle.mtxkit_matrices.specs.Facts.{AreFacts}
use Rattle.mtxkit_matrices.specs.declared.facts.info.Info.{Info}
use Rattle.mtxkit_texts.specs.AnyField.{IsOnesFailure, MeansOnesText}
use Rattle.mtxkit_facts.specs.FactJson.{info_json}
use Rattle.mtxkit_facts.specs.HeaderLines.{header_lines, size_lines}
use Rattle.mtxkit_texts.specs.Headers.{header_in}
use Rattle.mtxkit_texts.specs.Loaded.{MeansWhole, IsWholeFailure, ring128, value128}
use Rattle.mtxkit_facts.specs.declared.facts.ReportFormat.{ReportFormat}
use Rattle.mtxkit_facts.specs.declared.facts.ReportFormat.TheVariants.{Lines, Json}
use Rattle.mtxkit_facts.specs.declared.facts.TextFacts.{TextFacts}
use Rattle.mtxkit_texts.specs.declared.failure.Failure.{Failure}
use Rattle.mtxkit_texts.specs.declared.failure.Failure.TheVariants.{NotSupported, OutOfMemory}

-- ---- the facts

-- the facts are those of the matrix, whose values are integers
abbrev pub AreFactsOf : Compressed W128 → Info → Type 0
AreFactsOf m s = AreFacts ring128 value128 (λ v. int_eq (w128_number v) (pos 0)) m s

-- the text means this matrix with exact sums; or its values are real or complex, and the matrix has ones in their place
abbrev pub MeansFacts : Bool → List ℕ → ℕ → Compressed W128 → Type 0
MeansFacts true text entries m = MeansWhole text entries m
MeansFacts false text entries m = MeansOnesText text entries m

-- the facts are those of the text
pub record AreTextFacts (text : List ℕ) (f : TextFacts) : Type 0 where
  pub matrix : Compressed W128
  pub header : f.header ≡ header_in text
  pub rows : f.rows ≡ matrix.pattern.major_dim
  pub cols : f.cols ≡ matrix.pattern.minor_dim
  pub meant : MeansFacts f.has_values text f.entries matrix
  pub are : AreFactsOf matrix f.matrix

-- why the text is not described: an allocation failed, `load_exact` fails for another reason than real or complex
-- values, or an entry with such a value is invalid
abbrev pub IsInfoFailure : List ℕ → Failure → Type 0
IsInfoFailure text failure = (failure ≡ OutOfMemory)
    ⊎ (((failure ≢ NotSupported 1) × IsWholeFailure 1 text failure)
    ⊎ IsOnesFailure 1 text failure)

-- ---- the lines

-- the facts that are none about values
abbrev pub place_lines : Info → List ℕ
place_lines s = count_line (codes "places") s.places
    ++ (count_line (codes "empty rows") s.empty_rows
    ++ (count_line (codes "empty columns") s.empty_cols
    ++ (count_line (codes "bandwidth") s.bandwidth
    ++ line (codes "symmetric pattern") (answer s.has_symmetric_pattern))))

-- all facts about the matrix, or those about its places
abbrev pub matrix_lines : Bool → Info → ℕ → List ℕ
matrix_lines true s rows = count_lines s
    ++ (symmetry_lines s ++ histogram_lines s.rows.width s.rows.counts.items rows)
matrix_lines false s rows = place_lines s
    ++ histogram_lines s.rows.width s.rows.counts.items rows

abbrev pub info_lines : TextFacts → List ℕ
info_lines f = header_lines f.header
    ++ (size_lines f.rows f.cols f.entries ++ matrix_lines f.has_values f.matrix f.rows)

-- the facts as lines, or as an object in JSON
abbrev pub info_in : ReportFormat → TextFacts → List ℕ
info_in Lines f = info_lines f
info_in Json f = info_json f

-- the facts about the text, in this form
abbrev pub WritesInfo : ReportFormat → List ℕ → List ℕ → Type 0
WritesInfo form text written =
    (f : TextFacts) × (AreTextFacts text f × (written ≡ info_in form f))
