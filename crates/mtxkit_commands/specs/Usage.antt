-- What is said about arguments that give no command, and with which exit status.
use Rattle.std.specs.Prelude.{◌≡◌, ◌≢◌, ℕ, List, Option, string_bytes}
use Rattle.std.specs.Io.KnownBytes.{Appends}
use Rattle.mtxkit_arguments.specs.declared.given.ArgumentError.{ArgumentError}
use Rattle.mtxkit_arguments.specs.declared.given.ArgumentError.TheVariants.{NotText, OutOfMemory}
use Rattle.mtxkit_arguments.specs.declared.parsing.Explanation.{Explanation}
use Rattle.mtxkit_arguments.specs.declared.parsing.Explanation.TheVariants as explanation
use Rattle.mtxkit_commands.specs.Reports.{IsWritten}

-- of an error in reading the arguments
abbrev pub argument_status : ArgumentError → ℕ
argument_status NotText = 2
argument_status OutOfMemory = 1

-- of what is said in place of running a command: 2 exactly for a mistake, and 1 where an allocation failed
abbrev pub IsExplainedAt : Explanation → ℕ → Type 0
IsExplainedAt (explanation.Help text) status = status ≢ 2
IsExplainedAt (explanation.Mistake text) status = status ≡ 2
IsExplainedAt explanation.OutOfMemory status = status ≡ 1

-- the text of the help was appended
abbrev pub AppendsHelp : Explanation → Option (List ℕ) → Option (List ℕ) → Type 0
AppendsHelp (explanation.Help text) old new = Appends old new (string_bytes text)
AppendsHelp other old new = ⊥

-- the text that says what is wrong was written, or a write of it failed
abbrev pub WritesMistake : Explanation → Option (List ℕ) → Option (List ℕ) → ℕ → ℕ → Type 0
WritesMistake (explanation.Mistake text) old new before after =
    IsWritten (string_bytes text) old new before after
WritesMistake other old new before after = ⊥
