-- The kind of an error.
use Rattle.sparse_parser.specs.declared.error.Cause.{Cause}
use Rattle.sparse_parser.specs.declared.error.Cause.TheVariants.{Grammar, RealHermitian}
use Rattle.sparse_parser.specs.declared.error.Cause.TheVariants.{IntegerHermitian, PatternHermitian}
use Rattle.sparse_parser.specs.declared.error.Cause.TheVariants.{PatternSkewSymmetric, PatternArray}
use Rattle.sparse_parser.specs.declared.error.Cause.TheVariants.{SizeCount, SizeTooLarge, NotSquare}
use Rattle.sparse_parser.specs.declared.error.Cause.TheVariants.{EntryCount, EntryShape}
use Rattle.sparse_parser.specs.declared.error.Cause.TheVariants.{IndexTooLarge, ZeroIndex}
use Rattle.sparse_parser.specs.declared.error.Cause.TheVariants.{NotAnI128, ValueOutOfRange}
use Rattle.sparse_parser.specs.declared.error.Cause.TheVariants.{RealEntry, ComplexEntry}
use Rattle.sparse_parser.specs.declared.error.Cause.TheVariants.{NothingAsInteger, IntegerAsNothing}
use Rattle.sparse_parser.specs.declared.error.Cause.TheVariants.{IntegerConjugate, PatternConjugate}
use Rattle.sparse_parser.specs.declared.error.Cause.TheVariants.{PatternNegative, AboveDiagonal}
use Rattle.sparse_parser.specs.declared.error.Cause.TheVariants.{OnDiagonal, Format, Io, Memory}
use Rattle.sparse_parser.specs.declared.error.MatrixMarketErrorKind.{MatrixMarketErrorKind}
use Rattle.sparse_parser.specs.declared.error.MatrixMarketErrorKind.TheVariants.{ParsingError}
use Rattle.sparse_parser.specs.declared.error.MatrixMarketErrorKind.TheVariants.{InvalidHeader}
use Rattle.sparse_parser.specs.declared.error.MatrixMarketErrorKind.TheVariants.{EntryMismatch}
use Rattle.sparse_parser.specs.declared.error.MatrixMarketErrorKind.TheVariants.{TypeMismatch}
use Rattle.sparse_parser.specs.declared.error.MatrixMarketErrorKind.TheVariants.{ZeroError}
use Rattle.sparse_parser.specs.declared.error.MatrixMarketErrorKind.TheVariants.{SparseFormatError}
use Rattle.sparse_parser.specs.declared.error.MatrixMarketErrorKind.TheVariants.{DiagonalError}
use Rattle.sparse_parser.specs.declared.error.MatrixMarketErrorKind.TheVariants.{IOError}
use Rattle.sparse_parser.specs.declared.error.MatrixMarketErrorKind.TheVariants.{NotLowerTriangle}
use Rattle.sparse_parser.specs.declared.error.MatrixMarketErrorKind.TheVariants.{NonSquare}
use Rattle.sparse_parser.specs.declared.error.MatrixMarketErrorKind.TheVariants.{OutOfMemory}
use Rattle.sparse_parser.specs.declared.error.MatrixMarketError.{MatrixMarketError}

-- the kind of each cause
abbrev pub kind_of_cause : Cause → MatrixMarketErrorKind
kind_of_cause Grammar = ParsingError
kind_of_cause RealHermitian = InvalidHeader
kind_of_cause IntegerHermitian = InvalidHeader
kind_of_cause PatternHermitian = InvalidHeader
kind_of_cause PatternSkewSymmetric = InvalidHeader
kind_of_cause PatternArray = InvalidHeader
kind_of_cause SizeCount = ParsingError
kind_of_cause SizeTooLarge = ParsingError
kind_of_cause NotSquare = NonSquare
kind_of_cause EntryCount = EntryMismatch
kind_of_cause EntryShape = ParsingError
kind_of_cause IndexTooLarge = ParsingError
kind_of_cause ZeroIndex = ZeroError
kind_of_cause NotAnI128 = ParsingError
kind_of_cause ValueOutOfRange = TypeMismatch
kind_of_cause RealEntry = TypeMismatch
kind_of_cause ComplexEntry = TypeMismatch
kind_of_cause NothingAsInteger = TypeMismatch
kind_of_cause IntegerAsNothing = TypeMismatch
kind_of_cause IntegerConjugate = TypeMismatch
kind_of_cause PatternConjugate = TypeMismatch
kind_of_cause PatternNegative = TypeMismatch
kind_of_cause AboveDiagonal = NotLowerTriangle
kind_of_cause OnDiagonal = DiagonalError
kind_of_cause (Format kind text) = SparseFormatError kind
kind_of_cause (Io kind) = IOError kind
kind_of_cause Memory = OutOfMemory

-- the cause of an error
abbrev pub cause_of : MatrixMarketError → Cause
cause_of e = e.cause

-- the kind of an error
abbrev pub kind_of : MatrixMarketError → MatrixMarketErrorKind
kind_of e = kind_of_cause (cause_of e)
