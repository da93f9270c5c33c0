-- The files of a command that cannot be read, or whose texts have a fault.
use Rattle.std.specs.Prelude.{◌⊎◌, ℕ, List, ◌∷◌, Ok}
use Rattle.file_readings.specs.Readings.{Reading}
use Rattle.file_readings.specs.Reads.{ReadsTwo}
use Rattle.file_readings.specs.Reads as reads
use Rattle.mtxkit_texts.specs.declared.failure.Failure.{Failure}
use Rattle.mtxkit_commands.specs.Inputs.{IsUnread, input_fault}

-- the only file cannot be read, or its text has a fault for which `IsFault` holds
abbrev pub FailsOne : List ℕ → (List ℕ → Failure → Type 0) → List Reading → List Reading → Failure
    → Type 0
FailsOne file IsFault old new failure = reads.FailsOne input_fault file IsFault old new failure

-- the first file was read, and the second one cannot be read
abbrev pub IsSecondUnread : List ℕ → List ℕ → List Reading → List Reading → Failure → Type 0
IsSecondUnread a b old new failure =
    (first : List ℕ) × IsUnread 2 b ((a, Ok first) ∷ old) new failure

-- one of two files cannot be read, or their texts have a fault for which `IsFault` holds
abbrev pub FailsTwo : List ℕ → List ℕ → (List ℕ → List ℕ → Failure → Type 0) → List Reading
    → List Reading → Failure → Type 0
FailsTwo a b IsFault old new failure = IsUnread 1 a old new failure
    ⊎ (IsSecondUnread a b old new failure
    ⊎ ReadsTwo a b (λ first second. IsFault first second failure) old new)

-- the first two files were read, and the third one cannot be read
abbrev pub IsThirdUnread : List ℕ → List ℕ → List ℕ → List Reading → List Reading → Failure
    → Type 0
IsThirdUnread a x b old new failure = (first second : List ℕ)
    × IsUnread 3 b ((x, Ok second) ∷ (a, Ok first) ∷ old) new failure
