-- The words of a size line.
use Rattle.std.specs.Prelude.{◌≡◌, ℕ, true, List, [], ◌∷◌, Option, Some, None}
use denote.Ref.{Bor}
use Rattle.sparse_parser.specs.declared.size.SizeWords.{SizeWords}
use Rattle.sparse_parser.specs.Grammar.{is_index}

abbrev pub last_word : Option (Bor (List ℕ)) → List (List ℕ)
last_word None = []
last_word (Some word) = word.now ∷ []

abbrev pub size_words : SizeWords → List (List ℕ)
size_words w = w.rows.now ∷ (w.cols.now ∷ last_word w.count)

abbrev pub IsIndexIfAny : Option (Bor (List ℕ)) → Type 0
IsIndexIfAny None = Unit {0}
IsIndexIfAny (Some word) = is_index word.now ≡ true

-- each word is an index
abbrev pub AreIndices : SizeWords → Type 0
AreIndices w = (is_index w.rows.now ≡ true) × (is_index w.cols.now ≡ true) × IsIndexIfAny w.count
