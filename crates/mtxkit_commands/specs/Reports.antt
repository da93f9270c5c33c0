-- What is written about errors, and at which status.
use Rattle.std.specs.Prelude.{◌≡◌, ◌⊎◌, ℕ, ◌+◌, ◌<◌, List, ◌++◌, length, codes, Option, None}
use Rattle.std.specs.Io.KnownBytes.{Appends}
use Rattle.std.specs.declared.io.ErrorKind.{ErrorKind}
use Rattle.std.specs.declared.io.ErrorKind.TheVariants as io
use Rattle.mtxkit_texts.specs.declared.failure.Failure.TheVariants.{OutOfMemory}
use Rattle.mtxkit_arguments.specs.declared.commands.Command.{Command}
use Rattle.mtxkit_commands.specs.Names.{error_file, name_text}
use Rattle.mtxkit_commands.specs.declared.command_error.CommandError.{CommandError}
use Rattle.mtxkit_commands.specs.declared.command_error.CommandError.TheVariants.{Failed}
use Rattle.mtxkit_commands.specs.declared.command_error.CommandError.TheVariants.{Unwritten}

-- the line begins with the program's name and the path of the file, if there is one
abbrev pub IsErrorLine : Option (List ℕ) → List ℕ → Type 0
IsErrorLine path line =
    (rest : List ℕ) × (line ≡ (codes "mtxkit: " ++ name_text path) ++ rest)

-- the line that says that an allocation failed
abbrev pub memory_line : List ℕ
memory_line = codes "mtxkit: out of memory\n"

abbrev pub IsMemoryLine : List ℕ → Type 0
IsMemoryLine line = line ≡ memory_line

-- a text was appended, or a write of it failed: the number of failed writes rose by 1
abbrev pub IsWritten : List ℕ → Option (List ℕ) → Option (List ℕ) → ℕ → ℕ → Type 0
IsWritten text old new before after = Appends old new text ⊎ (after ≡ before + 1)

-- a line was written that names this file, or says that an allocation failed
pub record IsReported (path : Option (List ℕ)) (old new : Option (List ℕ)) (before after : ℕ)
    : Type 0 where
  pub line : List ℕ
  pub names : IsErrorLine path line ⊎ IsMemoryLine line
  pub written : IsWritten line old new before after

-- the same, whatever file the line names
abbrev pub HasReport : Option (List ℕ) → Option (List ℕ) → ℕ → ℕ → Type 0
HasReport old new before after =
    (path : Option (List ℕ)) × IsReported path old new before after

-- nothing was written; the number of failed writes is as before
abbrev pub IsSilent : Option (List ℕ) → Option (List ℕ) → ℕ → ℕ → Type 0
IsSilent old new before after = (new ≡ old) × (after ≡ before)

-- a text that is not empty was written, or a write of it failed
abbrev pub HasText : Option (List ℕ) → Option (List ℕ) → ℕ → ℕ → Type 0
HasText old new before after =
    (text : List ℕ) × (0 < length text) × IsWritten text old new before after

-- what was reported at this status: nothing at 0 and at 141, at 1 what `Report` says, and at 2 a text
pub record Tells (Report : Option (List ℕ) → Option (List ℕ) → ℕ → ℕ → Type 0) (status : ℕ)
    (old new : Option (List ℕ)) (before after : ℕ) : Type 0 where
  pub silent : status ≡ 0 → IsSilent old new before after
  pub reported : status ≡ 1 → Report old new before after
  pub mistaken : status ≡ 2 → HasText old new before after
  pub stopped : status ≡ 141 → IsSilent old new before after

-- a failed write of this kind was reported: by no line if the reader of the output has closed it
abbrev pub IsWriteReported : ErrorKind → Option (List ℕ) → Option (List ℕ) → ℕ → ℕ → Type 0
IsWriteReported io.BrokenPipe old new before after = IsSilent old new before after
IsWriteReported kind old new before after = IsReported None old new before after

-- an error of the command was reported; for an allocation that failed the line says so
abbrev pub IsErrorReported : Command → CommandError → Option (List ℕ) → Option (List ℕ) → ℕ → ℕ
    → Type 0
IsErrorReported command (Failed OutOfMemory) old new before after =
    IsWritten memory_line old new before after
IsErrorReported command (Unwritten kind) old new before after =
    IsWriteReported kind old new before after
IsErrorReported command error old new before after =
    IsReported (error_file command error) old new before after
