-- The faults of the header and the size line of a text.
use Rattle.std.specs.Prelude.{◌≡◌, ◌⊎◌, ℕ, true, false, List, Err}
use Rattle.sparse_parser.specs.declared.error.MatrixMarketErrorKind.{MatrixMarketErrorKind}
use Rattle.sparse_parser.specs.declared.error.MatrixMarketErrorKind.TheVariants as kinds
use Rattle.sparse_parser.specs.declared.header.Header.{Header}
use Rattle.sparse_parser.specs.Grammar.{is_size}
use Rattle.sparse_parser.specs.Meaning.{sizes_of}
use Rattle.sparse_faults.specs.declared.fault.LineFault.{LineFault}
use Rattle.sparse_faults.specs.declared.fault.LineFault.TheVariants as faults

-- the faults that are named for a header or a size line with an error of this kind; of other kinds
-- nothing is stated
abbrev pub IsFaultOfKind : MatrixMarketErrorKind → LineFault → Type 0
IsFaultOfKind kinds.InvalidHeader fault = (fault ≡ faults.Hermitian) ⊎ (fault ≡ faults.Pattern)
IsFaultOfKind kinds.ParsingError fault =
    (fault ≡ faults.SizeCount) ⊎ (fault ≡ faults.SizeTooLarge)
IsFaultOfKind kinds.NonSquare fault = fault ≡ faults.NotSquare
IsFaultOfKind kind fault = Unit {0}

-- the words are not a size line, or one that is invalid below this header; the fault says why
abbrev pub IsSizesFault : Header → List (List ℕ) → LineFault → Type 0
IsSizesFault h words fault = ((is_size words ≡ false) × (fault ≡ faults.Size))
    ⊎ ((kind : MatrixMarketErrorKind) × (is_size words ≡ true)
    × (sizes_of h words ≡ Err kind) × IsFaultOfKind kind fault)
