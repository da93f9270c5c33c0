-- Pictures of patterns.
use Rattle.std.specs.Prelude.{◌≡◌, ℕ, ◌+◌, ◌*◌, ◌/◌, ◌==◌, ◌&&◌, Bool, List, slice_index, nat_lt}
use Rattle.std.specs.Prelude.{count_by}
use Rattle.sparse_pattern.specs.Raw.{Raw, IsEntry, entries_of}

-- a picture: the number of entries in each cell, row by row
pub record CellCounts : Type 0 where
  pub height : ℕ
  pub width : ℕ
  pub counts : List ℕ

abbrev pub cell_counts : ℕ → ℕ → List ℕ → CellCounts
cell_counts height width counts = record { height = height; width = width; counts = counts }

abbrev pub count_at : CellCounts → ℕ → ℕ → ℕ
count_at m r c = slice_index m.counts (r * m.width + c)

-- a cell is black if an entry lies in it
unfoldable pub is_black : CellCounts → ℕ → ℕ → Bool
is_black m r c = nat_lt 0 (count_at m r c)

-- the number of the cell in which index i lies, if `cells` cells stand for `size` indices
abbrev pub cell_of : ℕ → ℕ → ℕ → ℕ
cell_of size cells i = i * cells / size

-- the entry lies in the cell at row r and column c of a picture of the pattern with this height and
-- width
abbrev pub lies_in : Raw → ℕ → ℕ → ℕ → ℕ → ℕ × ℕ → Bool
lies_in p height width r c e =
    (cell_of p.major_dim height e.0 == r) && (cell_of p.minor_dim width e.1 == c)

-- the number of entries of the pattern in that cell
abbrev pub entries_in : Raw → ℕ → ℕ → ℕ → ℕ → ℕ
entries_in p height width r c = count_by (lies_in p height width r c) (entries_of p)

-- an entry of the pattern lies in the cell at row r and column c of a picture with this height and
-- width
pub record HasEntryIn (p : Raw) (height width r c : ℕ) : Type 0 where
  pub i : ℕ
  pub j : ℕ
  pub place : IsEntry p i j
  pub down : cell_of p.major_dim height i ≡ r
  pub across : cell_of p.minor_dim width j ≡ c
