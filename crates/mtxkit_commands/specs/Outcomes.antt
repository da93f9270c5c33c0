-- What a command has done when it ends, and its exit status.
use Rattle.std.specs.Prelude.{◌≡◌, ◌⊎◌, ◌+◌, ◌<◌, ◌≤◌, ℕ, List, ◌∷◌, length, Option, Some, None, true}
use Rattle.std.specs.declared.io.Error.{Error}
use Rattle.std.specs.declared.io.ErrorKind.{ErrorKind}
use Rattle.std.specs.declared.io.ErrorKind.TheVariants as io
use Rattle.std.specs.Io.KnownBytes.{Appends, Keeps}
use Rattle.mtxkit_texts.specs.Statuses.{status_of}
use Rattle.mtxkit_texts.specs.declared.failure.Failure.{Failure}
use Rattle.mtxkit_texts.specs.declared.failure.Failure.TheVariants.{Unsaved}
use Rattle.mtxkit_arguments.specs.Files.{is_saved, saved_file}
use Rattle.mtxkit_arguments.specs.declared.commands.Command.{Command}
use Rattle.mtxkit_commands.specs.Answers.{IsAnswer}
use Rattle.mtxkit_commands.specs.Failures.{IsFailure, IsUnscaledBy, IsMisorderedBy, IsUnevaluatedBy}
use Rattle.file_readings.specs.Readings.{Reading}
use Rattle.mtxkit_commands.specs.Savings.{Saving}
use Rattle.mtxkit_commands.specs.declared.command_error.CommandError.{CommandError}
use Rattle.mtxkit_commands.specs.declared.command_error.CommandError.TheVariants.{Failed}
use Rattle.mtxkit_commands.specs.declared.command_error.CommandError.TheVariants.{Unscaled}
use Rattle.mtxkit_commands.specs.declared.command_error.CommandError.TheVariants.{Misordered}
use Rattle.mtxkit_commands.specs.declared.command_error.CommandError.TheVariants.{Unwritten}
use Rattle.mtxkit_commands.specs.declared.command_error.CommandError.TheVariants.{Unevaluated}

-- a write to the output failed, the last one, with this kind; by the numbers of failed writes before and after
abbrev pub IsUnwritten : ℕ → ℕ → Option ErrorKind → ErrorKind → Type 0
IsUnwritten before after last kind = (after ≡ before + 1) × (last ≡ Some kind)

-- the error is a failed write to the output, the last one
abbrev pub IsOutputFailure : ℕ → ℕ → Option ErrorKind → CommandError → Type 0
IsOutputFailure before after last error =
    (kind : ErrorKind) × (error ≡ Unwritten kind) × IsUnwritten before after last kind

-- the output file was not created or not written
abbrev pub IsUnsaved : Failure → Type 0
IsUnsaved failure = (error : Error) × (failure ≡ Unsaved error)

-- why a command fails though no write to the output failed: it fails before it writes, or its output file was not
-- created or not written
abbrev pub IsUnanswered : Command → List Reading → List Reading → Failure → Type 0
IsUnanswered command old new failure =
    IsFailure command old new failure ⊎ ((is_saved command ≡ true) × IsUnsaved failure)

-- why a command fails; by the numbers of failed writes to the output before and after, and the kind of the last one
abbrev pub CanFail : Command → List Reading → List Reading → ℕ → ℕ → Option ErrorKind
    → CommandError → Type 0
CanFail command old new before after last (Failed failure) =
    (after ≡ before) × IsUnanswered command old new failure
CanFail command old new before after last (Unscaled error least) =
    (after ≡ before) × IsUnscaledBy command old new error least
CanFail command old new before after last (Misordered error) =
    (after ≡ before) × IsMisorderedBy command old new error
CanFail command old new before after last (Unevaluated error) =
    (after ≡ before) × IsUnevaluatedBy command old new error
CanFail command old new before after last (Unwritten kind) = IsUnwritten before after last kind

-- the exit status for a failed write of this kind: that of a program that a closed pipe stops, or else 1
abbrev pub write_status : ErrorKind → ℕ
write_status io.BrokenPipe = 141
write_status kind = 1

-- the exit status of an error
abbrev pub error_status : CommandError → ℕ
error_status (Failed failure) = status_of failure
error_status (Unscaled error least) = 1
error_status (Misordered error) = 1
error_status (Unevaluated error) = 1
error_status (Unwritten kind) = write_status kind

-- the exit status of a program that ends, or that a closed pipe stops
abbrev pub IsStatus : ℕ → Type 0
IsStatus status = (status ≤ 2) ⊎ (status ≡ 141)

-- the answer was appended to the output and no file was to be written, or the answer was to be written to the file with
-- this path and nothing was appended
abbrev pub IsDelivered : Option (List ℕ) → List ℕ → List Saving → List Saving → Option (List ℕ)
    → Option (List ℕ) → Type 0
IsDelivered None answer saved saved' old new = (saved' ≡ saved) × Appends old new answer
IsDelivered (Some path) answer saved saved' old new =
    (saved' ≡ (path, answer) ∷ saved) × (new ≡ old)

-- the command read its files, and its answer for these was delivered
abbrev pub IsAnswered : Command → List Reading → List Reading → List Saving → List Saving
    → Option (List ℕ) → Option (List ℕ) → Type 0
IsAnswered command before after saved saved' old new =
    (answer : List ℕ) × IsAnswer command before after answer
    × IsDelivered (saved_file command) answer saved saved' old new

-- no file was read or to be written, and a text was appended, such as help
abbrev pub HasHelped : List Reading → List Reading → List Saving → List Saving → Option (List ℕ)
    → Option (List ℕ) → Type 0
HasHelped before after saved saved' old new = (text : List ℕ) × (after ≡ before)
    × (saved' ≡ saved) × (0 < length text) × Appends old new text

-- a command was answered, or help was
abbrev pub HasAnswered : List Reading → List Reading → List Saving → List Saving → Option (List ℕ)
    → Option (List ℕ) → Type 0
HasAnswered before after saved saved' old new =
    ((command : Command) × IsAnswered command before after saved saved' old new)
    ⊎ HasHelped before after saved saved' old new

-- the same, and the known bytes stayed as they were from then on
abbrev pub HasFlushedAnswer : List Reading → List Reading → List Saving → List Saving
    → Option (List ℕ) → Option (List ℕ) → Type 0
HasFlushedAnswer before after saved saved' old new = (written : Option (List ℕ))
    × HasAnswered before after saved saved' old written × Keeps written new
