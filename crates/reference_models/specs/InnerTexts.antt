-- The lists that lines and entries of the slow reader represent.
use Rattle.std.specs.Prelude.{ℕ, List, [], ◌∷◌, map, Option, Some, None}
use denote.Ref.{Bor}
use Rattle.reference_models.specs.declared.texts.lines.Line.{Line}

-- borrowed words
abbrev pub texts : List (Bor (List ℕ)) → List (List ℕ)
texts words = map (λ word. word.now) words

-- the words of a line
abbrev pub words_in : Line → List (List ℕ)
words_in line = texts line.words.items

abbrev pub lines_in : List Line → List (List (List ℕ))
lines_in lines = map words_in lines

-- an entry and the one that it implies, as a list
abbrev pub both_of : {A : Type 0} → A × Option A → List A
both_of (first, None) = first ∷ []
both_of (first, Some second) = first ∷ second ∷ []
