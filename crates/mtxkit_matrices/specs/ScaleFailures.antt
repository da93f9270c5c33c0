-- Why the numbers of a text are not scaled.
use Rattle.std.specs.Prelude.{◌≡◌, ◌≢◌, ◌⊎◌, ℕ, Option, Bool, true, false, ◌&&◌, List, [], ◌∷◌, ◌++◌}
use Rattle.std.specs.Prelude.{Some, None}
use Rattle.std.specs.List.{list_all}
use Rattle.sparse_parser.specs.declared.header.Format.{Format}
use Rattle.sparse_parser.specs.declared.header.Format.TheVariants.{Coordinate, Array}
use Rattle.sparse_parser.specs.declared.header.Header.{Header}
use Rattle.sparse_parser.specs.Header.{header_of, is_allowed}
use Rattle.sparse_parser.specs.Grammar.{AreLines, AreHeaded}
use Rattle.sparse_parser.specs.Grammar.{is_index, is_number, is_size, is_entry}
use Rattle.mtxkit_matrices.specs.declared.decimals.error.ScaleError.{ScaleError}
use Rattle.mtxkit_matrices.specs.declared.decimals.error.ScaleError.TheVariants as errors
use Rattle.mtxkit_matrices.specs.declared.decimals.number.Misfit.{Misfit}
use Rattle.mtxkit_matrices.specs.declared.decimals.number.Misfit.TheVariants as misfits
use Rattle.sparse_faults.specs.declared.fault.LineFault.{LineFault}
use Rattle.sparse_faults.specs.declared.fault.LineFault.TheVariants as faults
use Rattle.mtxkit_matrices.specs.Decimals.{IsMisfit}
use Rattle.sparse_faults.specs.LineFaults.{IsSizesFault}
use Rattle.sparse_faults.specs.Lines.{HasLine, IsContent, AreBlankLines}
use Rattle.mtxkit_matrices.specs.ScaledTexts.{is_decimal, IsSized, AreScaled}

-- ---- the lines above one

-- the lines have this header, which is that of a matrix of decimal numbers, and these contents below
-- it
pub record AreBelowHeader (lines : List (List ℕ)) (h : Header) (contents : List (List (List ℕ)))
    : Type 0 where
  pub words : List (List ℕ)
  pub headed : AreHeaded lines words contents
  pub says : header_of words ≡ Some h
  pub field : is_decimal h.field ≡ true
  pub allowed : is_allowed h ≡ true

-- the lines have this header, and below it a size line and data lines whose values can be scaled
pub record AreBelowSizes (scale : ℕ) (lines : List (List ℕ)) (h : Header) : Type 0 where
  pub size : List (List ℕ)
  pub read : List (List (List ℕ))
  pub wrote : List (List (List ℕ))
  pub headed : AreBelowHeader lines h (size ∷ read)
  pub sized : is_size size ≡ true
  pub sizes : IsSized h size
  pub listed : list_all is_entry read ≡ true
  pub values : AreScaled scale h.format read wrote

-- ---- faults of the words of a line

-- the words of the first line that is not blank are not a header, or one that decimal numbers cannot
-- have
abbrev pub IsHeaderFault : List (List ℕ) → LineFault → Type 0
IsHeaderFault words fault = ((words ≢ []) × (header_of words ≡ None) × (fault ≡ faults.Header))
    ⊎ ((h : Header) × (header_of words ≡ Some h) × (is_decimal h.field ≡ true)
    × (is_allowed h ≡ false) × (fault ≡ faults.Hermitian))

-- the words are a header whose field is not one of decimal numbers
abbrev pub HasOtherField : List (List ℕ) → Type 0
HasOtherField words =
    (h : Header) × (header_of words ≡ Some h) × (is_decimal h.field ≡ false)

-- the words are a data line: a row, a column and a number, or a number
abbrev pub is_decimal_entry : Format → List (List ℕ) → Bool
is_decimal_entry Coordinate (row ∷ col ∷ value ∷ []) =
    is_index row && is_index col && is_number value
is_decimal_entry Array (value ∷ []) = is_number value
is_decimal_entry format words = false

-- the words are a data line whose value is refused
pub record HasMisfit (why : Misfit) (scale : ℕ) (format : Format) (words : List (List ℕ)) : Type
    0 where
  pub places : List (List ℕ)
  pub value : List ℕ
  pub words_are : words ≡ places ++ (value ∷ [])
  pub is : is_decimal_entry format words ≡ true
  pub not : IsMisfit why scale value

-- ---- the failures

abbrev pub HasNoHeader : List ℕ → ℕ → LineFault → Type 0
HasNoHeader text n fault =
    HasLine text n (λ above words. AreBlankLines above × IsHeaderFault words fault)

abbrev pub HasWrongField : List ℕ → ℕ → Type 0
HasWrongField text n = HasLine text n (λ above words. AreBlankLines above × HasOtherField words)

abbrev pub HasNoSizes : List ℕ → ℕ → LineFault → Type 0
HasNoSizes text n fault = HasLine text n (λ above words. (h : Header)
    × AreBelowHeader above h [] × IsContent words × IsSizesFault h words fault)

abbrev pub HasNoEntry : ℕ → List ℕ → ℕ → Type 0
HasNoEntry scale text n = HasLine text n (λ above words. (h : Header)
    × AreBelowSizes scale above h × IsContent words × (is_decimal_entry h.format words ≡ false))

abbrev pub HasNoValue : Misfit → ℕ → List ℕ → ℕ → Type 0
HasNoValue why scale text n = HasLine text n (λ above words. (h : Header)
    × AreBelowSizes scale above h × IsContent words × HasMisfit why scale h.format words)

-- the text has only blank lines, or a header and below it only blank lines and comments
abbrev pub EndsEarly : List ℕ → Type 0
EndsEarly text = (lines : List (List ℕ)) × AreLines text lines
    × (AreBlankLines lines ⊎ ((h : Header) × AreBelowHeader lines h []))

-- the line that the error names is the first with a fault, and has this one; or the text ends before
-- its size line
abbrev pub IsScaleFailure : ℕ → List ℕ → ScaleError → Type 0
IsScaleFailure scale text (errors.Header at) = HasNoHeader text at.line at.fault
IsScaleFailure scale text (errors.Field n) = HasWrongField text n
IsScaleFailure scale text (errors.Sizes at) = HasNoSizes text at.line at.fault
IsScaleFailure scale text (errors.Entry n) = HasNoEntry scale text n
IsScaleFailure scale text (errors.Fraction n least) =
    HasNoValue (misfits.Fraction least) scale text n
IsScaleFailure scale text (errors.Range n) = HasNoValue misfits.Range scale text n
IsScaleFailure scale text errors.Ended = EndsEarly text
IsScaleFailure scale text errors.OutOfMemory = Unit {0}

-- the number of the line at fault, if one is
abbrev pub faulty_line : ScaleError → Option ℕ
faulty_line (errors.Header at) = Some at.line
faulty_line (errors.Field n) = Some n
faulty_line (errors.Sizes at) = Some at.line
faulty_line (errors.Entry n) = Some n
faulty_line (errors.Fraction n least) = Some n
faulty_line (errors.Range n) = Some n
faulty_line errors.Ended = None
faulty_line errors.OutOfMemory = None
