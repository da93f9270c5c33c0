-- The messages of errors.
use Rattle.std.specs.Prelude.{ℕ, List, codes}
use Rattle.sparse_parser.specs.declared.error.Cause.{Cause}
use Rattle.sparse_parser.specs.declared.error.Cause.TheVariants.{Grammar, RealHermitian}
use Rattle.sparse_parser.specs.declared.error.Cause.TheVariants.{IntegerHermitian, PatternHermitian}
use Rattle.sparse_parser.specs.declared.error.Cause.TheVariants.{PatternSkewSymmetric, PatternArray}
use Rattle.sparse_parser.specs.declared.error.Cause.TheVariants.{SizeCount, SizeTooLarge, NotSquare}
use Rattle.sparse_parser.specs.declared.error.Cause.TheVariants.{EntryCount, EntryShape}
use Rattle.sparse_parser.specs.declared.error.Cause.TheVariants.{IndexTooLarge, ZeroIndex}
use Rattle.sparse_parser.specs.declared.error.Cause.TheVariants.{NotAnI128, ValueOutOfRange}
use Rattle.sparse_parser.specs.declared.error.Cause.TheVariants.{RealEntry, ComplexEntry}
use Rattle.sparse_parser.specs.declared.error.Cause.TheVariants.{NothingAsInteger, IntegerAsNothing}
use Rattle.sparse_parser.specs.declared.error.Cause.TheVariants.{IntegerConjugate, PatternConjugate}
use Rattle.sparse_parser.specs.declared.error.Cause.TheVariants.{PatternNegative, AboveDiagonal}
use Rattle.sparse_parser.specs.declared.error.Cause.TheVariants.{OnDiagonal, Format, Io, Memory}
use Rattle.sparse_parser.specs.declared.error.MatrixMarketErrorKind.{MatrixMarketErrorKind}
use Rattle.sparse_parser.specs.declared.error.MatrixMarketErrorKind.TheVariants.{ParsingError}
use Rattle.sparse_parser.specs.declared.error.MatrixMarketErrorKind.TheVariants.{InvalidHeader}
use Rattle.sparse_parser.specs.declared.error.MatrixMarketErrorKind.TheVariants.{EntryMismatch}
use Rattle.sparse_parser.specs.declared.error.MatrixMarketErrorKind.TheVariants.{TypeMismatch}
use Rattle.sparse_parser.specs.declared.error.MatrixMarketErrorKind.TheVariants.{ZeroError}
use Rattle.sparse_parser.specs.declared.error.MatrixMarketErrorKind.TheVariants.{SparseFormatError}
use Rattle.sparse_parser.specs.declared.error.MatrixMarketErrorKind.TheVariants.{DiagonalError}
use Rattle.sparse_parser.specs.declared.error.MatrixMarketErrorKind.TheVariants.{IOError}
use Rattle.sparse_parser.specs.declared.error.MatrixMarketErrorKind.TheVariants.{NotLowerTriangle}
use Rattle.sparse_parser.specs.declared.error.MatrixMarketErrorKind.TheVariants.{NonSquare}
use Rattle.sparse_parser.specs.declared.error.MatrixMarketErrorKind.TheVariants.{OutOfMemory}
use Rattle.sparse_parser.specs.declared.error.MatrixMarketError.{MatrixMarketError}
use Rattle.sparse_parser.specs.Errors.{cause_of}

-- the name of each kind
abbrev pub kind_name : MatrixMarketErrorKind → List ℕ
kind_name ParsingError = codes "ParsingError"
kind_name InvalidHeader = codes "InvalidHeader"
kind_name EntryMismatch = codes "EntryMismatch"
kind_name TypeMismatch = codes "TypeMismatch"
kind_name ZeroError = codes "ZeroError"
kind_name (SparseFormatError kind) = codes "SparseFormatError"
kind_name DiagonalError = codes "DiagonalError"
kind_name (IOError kind) = codes "IOError"
kind_name NotLowerTriangle = codes "NotLowerTriangle"
kind_name NonSquare = codes "NonSquare"
kind_name OutOfMemory = codes "OutOfMemory"

-- the message of each cause
abbrev pub cause_message : Cause → List ℕ
cause_message Grammar = codes "Can't parse the data."
cause_message RealHermitian = codes "Real matrix can't be hermitian."
cause_message IntegerHermitian = codes "Integer matrix can't be hermitian."
cause_message PatternHermitian = codes "Pattern matrix can't be hermitian."
cause_message PatternSkewSymmetric = codes "Pattern matrix can't be skew-symmetric."
cause_message PatternArray = codes "Dense matrix can't be pattern matrix."
cause_message SizeCount = codes "Shape line doesn't fit the header."
cause_message SizeTooLarge = codes "A size is too large."
cause_message NotSquare = codes "(Skew-)Symmetric or hermitian matrix should be square matrix."
cause_message EntryCount = codes "The number of entries doesn't match the shape line."
cause_message EntryShape = codes "Entry line doesn't fit the header."
cause_message IndexTooLarge = codes "An index is too large."
cause_message ZeroIndex = codes "The data has to be one-indexed"
cause_message NotAnI128 = codes "Can't parse data as i128."
cause_message ValueOutOfRange = codes "Please consider using a larger integer type."
cause_message RealEntry = codes "Real entries are not carried."
cause_message ComplexEntry = codes "Complex entries are not carried."
cause_message NothingAsInteger = codes "Int type can't be parsed from ()"
cause_message IntegerAsNothing = codes "Pattern type can't be parsed from i128"
cause_message IntegerConjugate = codes "Int type has no conjugate"
cause_message PatternConjugate = codes "Pattern type has no conjugate"
cause_message PatternNegative = codes "Pattern type has no negative"
cause_message AboveDiagonal = codes "Entry should be put into lower triangle."
cause_message OnDiagonal = codes "There is a diagonal element in skew matrix."
cause_message (Format kind text) = text.now
cause_message (Io kind) = codes "The reader or writer failed."
cause_message Memory = codes "Out of memory."

-- the message of an error
abbrev pub message_of : MatrixMarketError → List ℕ
message_of e = cause_message (cause_of e)
