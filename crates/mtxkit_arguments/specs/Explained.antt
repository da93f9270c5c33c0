-- What is said for an error of `clap`.
use Rattle.std.specs.Prelude.{◌≡◌, ◌≢◌, ◌⊎◌, ◌<◌, length, string_bytes}
use Rattle.clap.specs.declared.error.kind.ErrorKind.{ErrorKind}
use Rattle.clap.specs.declared.error.kind.ErrorKind.TheVariants.{DisplayHelp, DisplayVersion}
use Rattle.mtxkit_arguments.specs.declared.parsing.Explanation.{Explanation}
use Rattle.mtxkit_arguments.specs.declared.parsing.Explanation.TheVariants.{Help, Mistake}
use Rattle.mtxkit_arguments.specs.declared.parsing.Explanation.TheVariants.{OutOfMemory}

-- help or the version is said exactly if it was asked for, and otherwise what is wrong, or that an allocation failed
abbrev pub IsExplained : ErrorKind → Explanation → Type 0
IsExplained kind (Help text) = (kind ≡ DisplayHelp) ⊎ (kind ≡ DisplayVersion)
IsExplained kind (Mistake text) = (kind ≢ DisplayHelp) × (kind ≢ DisplayVersion)
IsExplained kind OutOfMemory = Unit {0}

-- the text that is said is not empty
abbrev pub HasMessage : Explanation → Type 0
HasMessage (Help text) = 0 < length (string_bytes text)
HasMessage (Mistake text) = 0 < length (string_bytes text)
HasMessage OutOfMemory = Unit {0}
