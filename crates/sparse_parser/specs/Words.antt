-- The words of a line.
use Rattle.std.specs.Prelude.{ℕ, Bool, nat_lt, List, length, filter}
use Rattle.std.specs.List.{slice_split}

abbrev pub is_some_word : List ℕ → Bool
is_some_word word = nat_lt 0 (length word)

-- the words of a line: its longest runs of bytes that are not separators
abbrev pub words_between : (ℕ → Bool) → List ℕ → List (List ℕ)
words_between separates line = filter is_some_word (slice_split separates line)
