-- A line of an error was written, or none for an output that its reader has closed.
use Rattle.std.proofs.Common.{◌≡◌, ◌⊎◌, ◌<◌, ℕ, List, length, Option, None, Result, Ok, Err, IfOk}
use Rattle.std.proofs.Common.{IfErr, refl, inl, inr, arith, sym, subst, ◌∙◌, ◌≢◌}
use Rattle.std.specs.declared.io.ErrorKind.{ErrorKind}
use Rattle.std.specs.declared.io.ErrorKind.TheVariants as io
use Rattle.mtxkit_texts.specs.declared.failure.Failure.{Failure}
use Rattle.mtxkit_texts.specs.declared.failure.Failure.TheVariants.{OutOfMemory, Usage}
use Rattle.mtxkit_commands.specs.Names.{error_file, fault_line, fault_names, with_line}
use Rattle.mtxkit_commands.specs.Outcomes.{error_status, write_status, IsStatus}
use Rattle.mtxkit_commands.specs.Reports.{HasReport, HasText, IsErrorLine, IsErrorReported}
use Rattle.mtxkit_commands.specs.Reports.{IsMemoryLine, IsReported, IsSilent, IsWriteReported, IsWritten}
use Rattle.mtxkit_commands.specs.Reports.{memory_line, Tells}
use Rattle.mtxkit_commands.specs.declared.command_error.CommandError.{CommandError}
use Rattle.mtxkit_commands.specs.declared.command_error.CommandError.TheVariants.{Failed}
use Rattle.mtxkit_commands.specs.declared.command_error.CommandError.TheVariants.{Unscaled}
use Rattle.mtxkit_commands.specs.declared.command_error.CommandError.TheVariants.{Misordered}
use Rattle.mtxkit_commands.specs.declared.command_error.CommandError.TheVariants.{Unevaluated}
use Rattle.mtxkit_commands.specs.declared.command_error.CommandError.TheVariants.{Unwritten}
use Rattle.mtxkit_arguments.specs.declared.commands.Command.{Command}

-- the line was written, or the one that says that an allocation failed
pub reported : {S E : Type 0} (text : S → List ℕ) (made : Result S E) (path : Option (List ℕ))
    (old new : Option (List ℕ)) (before after : ℕ)
    → IfOk made (λ line. IsErrorLine path (text line))
    → IfOk made (λ line. IsWritten (text line) old new before after)
    → IfErr made (λ _. IsWritten memory_line old new before after)
    → IsReported path old new before after
reported text (Ok line) path old new before after names written memory =
    record { line = text line; names = inl names; written = written }
reported text (Err e) path old new before after names written memory =
    record { line = memory_line; names = inr refl; written = memory }

-- there was no line, so the one that says that an allocation failed was written
pub memory_reported : {S E : Type 0} (made : Result S E) (failure : Failure)
    (old new : Option (List ℕ)) (before after : ℕ) → IfOk made (λ _. failure ≢ OutOfMemory)
    → IfErr made (λ _. IsWritten memory_line old new before after) → failure ≡ OutOfMemory
    → IsWritten memory_line old new before after
memory_reported (Ok line) failure old new before after not memory is = absurd (not is)
memory_reported (Err e) failure old new before after not memory is = memory

write_status-is : (kind : ErrorKind) → IsStatus (write_status kind)
write_status-is io.BrokenPipe = inr refl
write_status-is kind = inl (omega arith)

pub error_status-is : (error : CommandError) → IsStatus (error_status error)
error_status-is (Failed Usage) = inl (omega arith)
error_status-is (Failed failure) = inl (omega arith)
error_status-is (Unscaled error least) = inl (omega arith)
error_status-is (Misordered error) = inl (omega arith)
error_status-is (Unevaluated error) = inl (omega arith)
error_status-is (Unwritten kind) = write_status-is kind

pub error_status-some : (error : CommandError) → error_status error ≡ 0 → ⊥
error_status-some (Failed Usage) is = omega (arith, is)
error_status-some (Failed failure) is = omega (arith, is)
error_status-some (Unscaled error least) is = omega (arith, is)
error_status-some (Misordered error) is = omega (arith, is)
error_status-some (Unevaluated error) is = omega (arith, is)
error_status-some (Unwritten io.BrokenPipe) is = omega (arith, is)
error_status-some (Unwritten kind) is = omega (arith, is)

write_status-not_2 : (kind : ErrorKind) → write_status kind ≡ 2 → ⊥
write_status-not_2 io.BrokenPipe is = omega (arith, is)
write_status-not_2 kind is = omega (arith, is)

-- the line of an error is not empty
line-some : (path : Option (List ℕ)) (line : List ℕ) → IsErrorLine path line ⊎ IsMemoryLine line
    → 0 < length line
line-some path line names = elim names [
  | inl begins ↦ rw begins.1 (omega arith)
  | inr memory ↦ rw memory (omega arith)
]

module _ (old new : Option (List ℕ)) (before after : ℕ) where
  pub text_of_report : (path : Option (List ℕ)) → IsReported path old new before after
      → HasText old new before after
  text_of_report path told = (told.line, line-some path told.line told.names, told.written)

  -- the text of an error with status 2 was written
  text_of_error : (command : Command) (error : CommandError) → error_status error ≡ 2
      → IsErrorReported command error old new before after → HasText old new before after
  text_of_error command (Failed OutOfMemory) is told = absurd (omega (arith, is))
  text_of_error command (Failed failure) is told = text_of_report _ told
  text_of_error command (Unscaled error least) is told = text_of_report _ told
  text_of_error command (Misordered error) is told = text_of_report _ told
  text_of_error command (Unevaluated error) is told = text_of_report _ told
  text_of_error command (Unwritten kind) is told = absurd (write_status-not_2 kind is)

  written_at_1 : (kind : ErrorKind) → write_status kind ≡ 1
      → IsWriteReported kind old new before after → IsReported None old new before after
  written_at_1 io.BrokenPipe is told = absurd (omega (arith, is))
  written_at_1 kind is told = told

  silent_at_141 : (kind : ErrorKind) → write_status kind ≡ 141
      → IsWriteReported kind old new before after → IsSilent old new before after
  silent_at_141 io.BrokenPipe is told = told
  silent_at_141 kind is told = absurd (omega (arith, is))

  pub failure_reported : (command : Command) (failure : Failure)
      → IsReported (with_line (fault_names command failure) (fault_line failure)) old new before after
      → (failure ≡ OutOfMemory → IsWritten memory_line old new before after)
      → IsErrorReported command (Failed failure) old new before after
  failure_reported command OutOfMemory told memory = memory refl
  failure_reported command failure told memory = told

  -- the line of an error with status 1 was written
  written_of_error : (command : Command) (error : CommandError) → error_status error ≡ 1
      → IsErrorReported command error old new before after → HasReport old new before after
  written_of_error command (Failed OutOfMemory) is told =
      (None, record { line = memory_line; names = inr refl; written = told })
  written_of_error command (Failed failure) is told =
      (error_file command (Failed failure), told)
  written_of_error command (Unscaled error least) is told =
      (error_file command (Unscaled error least), told)
  written_of_error command (Misordered error) is told =
      (error_file command (Misordered error), told)
  written_of_error command (Unevaluated error) is told =
      (error_file command (Unevaluated error), told)
  written_of_error command (Unwritten kind) is told = (None, written_at_1 kind is told)

  -- nothing was written for an error with status 141
  silent_of_error : (command : Command) (error : CommandError) → error_status error ≡ 141
      → IsErrorReported command error old new before after → IsSilent old new before after
  silent_of_error command (Failed Usage) is told = absurd (omega (arith, is))
  silent_of_error command (Failed failure) is told = absurd (omega (arith, is))
  silent_of_error command (Unscaled error least) is told = absurd (omega (arith, is))
  silent_of_error command (Misordered error) is told = absurd (omega (arith, is))
  silent_of_error command (Unevaluated error) is told = absurd (omega (arith, is))
  silent_of_error command (Unwritten kind) is told = silent_at_141 kind is told

  -- an error was reported with its status
  pub tells_error : (command : Command) (error : CommandError) (status : ℕ)
      → status ≡ error_status error → IsErrorReported command error old new before after
      → Tells HasReport status old new before after
  tells_error command error status is told = record {
    silent = λ none. absurd (error_status-some error (sym is ∙ none));
    reported = λ one. written_of_error command error (sym is ∙ one) told;
    mistaken = λ two. text_of_error command error (sym is ∙ two) told;
    stopped = λ stop. silent_of_error command error (sym is ∙ stop) told;
  }

  -- a line that names no file was reported
  pub tells_line : (status : ℕ) → Tells (IsReported None) status old new before after
      → Tells HasReport status old new before after
  tells_line status told = record {
    silent = told.silent;
    reported = λ one. (None, told.reported one);
    mistaken = told.mistaken;
    stopped = told.stopped;
  }

-- nothing was reported first, and then a line that names no file
pub tells_after : (old middle new : Option (List ℕ)) (before between after : ℕ) (status : ℕ)
    → IsSilent old middle before between → Tells (IsReported None) status middle new between after
    → Tells HasReport status old new before after
tells_after old middle new before between after status silent told =
    subst (λ o. Tells HasReport status o new before after) silent.0
    (subst (λ b. Tells HasReport status middle new b after) silent.1
    (tells_line middle new between after status told))
