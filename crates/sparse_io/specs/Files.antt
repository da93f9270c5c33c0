-- Errors of files.
use Rattle.std.specs.Prelude.{◌≡◌}
use Rattle.std.specs.declared.io.ErrorKind.{ErrorKind}
use Rattle.std.specs.declared.io.ErrorKind.TheVariants as io
use Rattle.sparse_parser.specs.declared.error.MatrixMarketErrorKind.{MatrixMarketErrorKind}
use Rattle.sparse_parser.specs.declared.error.MatrixMarketErrorKind.TheVariants.{IOError}
use Rattle.sparse_parser.specs.declared.error.MatrixMarketErrorKind.TheVariants.{OutOfMemory}

-- the kind of an error in opening, creating or reading a file
abbrev pub file_fault : ErrorKind → MatrixMarketErrorKind
file_fault io.OutOfMemory = OutOfMemory
file_fault kind = IOError kind

-- the error is that of a failure, of any kind, in opening or reading a file
pub record IsReadFault (e : MatrixMarketErrorKind) : Type 0 where
  pub fault : ErrorKind
  pub is : e ≡ file_fault fault

-- an allocation failed, or the file could not be opened, created, read, written or flushed
abbrev pub IsFileFault : MatrixMarketErrorKind → Type 0
IsFileFault OutOfMemory = Unit {0}
IsFileFault (IOError kind) = Unit {0}
IsFileFault _ = ⊥
