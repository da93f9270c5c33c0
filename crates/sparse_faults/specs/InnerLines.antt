-- The lines of a text, as they are read one after the other.
use Rattle.std.specs.Prelude.{◌≡◌, ◌⊎◌, ℕ, ◌+◌, ◌<◌, List, [], ◌++◌, length}
use Rattle.sparse_parser.specs.Bytes.{leading, after}
use Rattle.sparse_parser.specs.InnerBytes.{is_within_line}
use Rattle.sparse_parser.specs.Grammar.{AreLines, IsLineEnd}

-- a text that is not empty, its first line, and the text from that line's end on
pub record IsCut (rest line others : List ℕ) : Type 0 where
  pub some : 0 < length rest
  pub line_is : line ≡ leading is_within_line rest
  pub others_are : others ≡ after is_within_line rest

-- a text that is empty or begins with a line end, and the text after that line end
abbrev pub IsEnded : List ℕ → List ℕ → Type 0
IsEnded others next = ((others ≡ []) × (next ≡ []))
    ⊎ ((end : List ℕ) × IsLineEnd end next × (others ≡ end ++ next))

-- `before` are the lines of `text` above `rest`, which begins with the line of this number; the first
-- line of the text has the number `first`
pub record AreAbove (text : List ℕ) (first : ℕ) (before : List (List ℕ)) (number : ℕ)
    (rest : List ℕ) : Type 0 where
  pub counted : number ≡ first + length before
  pub read_is : (behind : List (List ℕ)) → AreLines rest behind → AreLines text (before ++ behind)
