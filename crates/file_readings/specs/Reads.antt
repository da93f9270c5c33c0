-- The files that were read in order, and what holds of their texts.
use Rattle.std.specs.Prelude.{◌≡◌, ◌⊎◌, ℕ, List, ◌∷◌, Ok}
use Rattle.std.specs.declared.io.Error.{Error}
use Rattle.file_readings.specs.Readings.{Reading, AreRead, IsUnread}

-- the only file was read; it has this path, and `Holds` holds of its text
abbrev pub ReadsOne : List ℕ → (List ℕ → Type 0) → List Reading → List Reading → Type 0
ReadsOne file Holds old new = (text : List ℕ) × (new ≡ (file, Ok text) ∷ old) × Holds text

-- the same for two files, which were read in this order
abbrev pub ReadsTwo : List ℕ → List ℕ → (List ℕ → List ℕ → Type 0) → List Reading → List Reading
    → Type 0
ReadsTwo a b Holds old new = (first second : List ℕ)
    × (new ≡ (b, Ok second) ∷ (a, Ok first) ∷ old) × Holds first second

-- the same for three files
abbrev pub ReadsThree : List ℕ → List ℕ → List ℕ → (List ℕ → List ℕ → List ℕ → Type 0)
    → List Reading → List Reading → Type 0
ReadsThree a x b Holds old new = (first second third : List ℕ)
    × (new ≡ (b, Ok third) ∷ (x, Ok second) ∷ (a, Ok first) ∷ old) × Holds first second third

-- the same for any number of files
pub record ReadsAll (files : List (List ℕ)) (Holds : List (List ℕ) → Type 0) (old new : List Reading)
    : Type 0 where
  pub texts : List (List ℕ)
  pub read : AreRead files texts old new
  pub holds : Holds texts

-- the only file cannot be read, or its text has a fault for which `IsFault` holds; `fault` gives the failure for the
-- number of a file that cannot be read and its error
abbrev pub FailsOne : {F : Type 0} → (ℕ → Error → F) → List ℕ → (List ℕ → F → Type 0)
    → List Reading → List Reading → F → Type 0
FailsOne fault file IsFault old new failure = IsUnread fault 1 file old new failure
    ⊎ ReadsOne file (λ text. IsFault text failure) old new
