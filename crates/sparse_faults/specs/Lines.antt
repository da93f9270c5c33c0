-- The numbers of the lines of a text.
use Rattle.std.specs.Prelude.{◌≡◌, ◌≢◌, ℕ, ◌+◌, List, [], ◌∷◌, ◌++◌, length, slice_index}
use Rattle.std.specs.List.{AllByRecursion}
use Rattle.sparse_parser.specs.Grammar.{AreLines, AreWords, AreBlanks}

-- the line with this number, counted from 1
pub record IsLineOf (text : List ℕ) (number : ℕ) (line : List ℕ) : Type 0 where
  pub before : List (List ℕ)
  pub behind : List (List ℕ)
  pub lines : AreLines text (before ++ (line ∷ behind))
  pub counted : number ≡ length before + 1

-- the text has a line with this number, and `AreSuch` holds of the lines above it and of its words
abbrev pub HasLine : List ℕ → ℕ → (List (List ℕ) → List (List ℕ) → Type 0) → Type 0
HasLine text number AreSuch = (line : List ℕ) × (words : List (List ℕ))
    × (l : IsLineOf text number line) × AreWords line words × AreSuch l.before words

-- the words are those of a line that is neither blank nor a comment
abbrev pub IsContent : List (List ℕ) → Type 0
IsContent [] = ⊥
IsContent (word ∷ words) = slice_index word 0 ≢ 37

abbrev pub AreBlankLines : List (List ℕ) → Type 0
AreBlankLines lines = AllByRecursion AreBlanks lines
