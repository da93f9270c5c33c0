-- The failures for files that cannot be read.
use Rattle.std.specs.Prelude.{ℕ, List}
use Rattle.std.specs.IoError.{error_kind}
use Rattle.std.specs.declared.io.Error.{Error}
use Rattle.std.specs.declared.io.ErrorKind.{ErrorKind}
use Rattle.std.specs.declared.io.ErrorKind.TheVariants as io
use Rattle.file_readings.specs.Readings.{Reading}
use Rattle.file_readings.specs.Readings as read
use Rattle.mtxkit_texts.specs.declared.failure.Failure.{Failure}
use Rattle.mtxkit_texts.specs.declared.failure.Failure.TheVariants.{Unread, OutOfMemory}

-- the failure for the file with this number: a failed allocation names no file
abbrev pub unread_fault : ErrorKind → ℕ → Error → Failure
unread_fault io.OutOfMemory number error = OutOfMemory
unread_fault kind number error = Unread number error

-- the same, by the kind of the error
abbrev pub input_fault : ℕ → Error → Failure
input_fault number error = unread_fault (error_kind error) number error

-- the next file has this path and could not be read, and the failure is the one for its number
abbrev pub IsUnread : ℕ → List ℕ → List Reading → List Reading → Failure → Type 0
IsUnread number path old new failure = read.IsUnread input_fault number path old new failure

-- the first of the files that cannot be read, after those before it were, and the failure for its number
abbrev pub IsFirstUnread : List (List ℕ) → List Reading → List Reading → Failure → Type 0
IsFirstUnread paths old new failure = read.IsFirstUnread input_fault paths old new failure
