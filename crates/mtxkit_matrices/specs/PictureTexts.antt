-- The texts of pictures.
use Rattle.std.specs.Prelude.{ℕ, ◌+◌, ◌*◌, ◌/◌, ◌%◌, Bool, true, false, ◌&&◌, nat_lt}
use Rattle.std.specs.Prelude.{List, [], ◌∷◌, ◌++◌, codes}
use Rattle.std.specs.Fmt.{decimal}
use Rattle.std.specs.List.{flat_map}
use Rattle.sparse_algebra.specs.Plain.{below}
use Rattle.mtxkit_matrices.specs.Pictures.{CellCounts, is_black}

-- ---- portable bitmaps

-- a black cell is 1, a white one 0
abbrev pub cell_text : Bool → List ℕ
cell_text true = codes "1"
cell_text false = codes "0"

-- the cells of a row from left to right, and a line end
abbrev pub row_text : CellCounts → ℕ → List ℕ
row_text m row = flat_map (λ col. cell_text (is_black m row col)) (below m.width) ++ (10 ∷ [])

-- P1, the width and the height
abbrev pub bitmap_head : CellCounts → List ℕ
bitmap_head m = codes "P1\n" ++ (decimal m.width ++ (32 ∷ (decimal m.height ++ (10 ∷ []))))

-- the head, and the rows from the top
abbrev pub bitmap_text : CellCounts → List ℕ
bitmap_text m = bitmap_head m ++ flat_map (row_text m) (below m.height)

-- ---- block characters, as UTF-8

-- two cells, one above the other: a full block, an upper half, a lower half, or a blank
abbrev pub pair_text : Bool → Bool → List ℕ
pair_text true true = 226 ∷ (150 ∷ (136 ∷ []))
pair_text true false = 226 ∷ (150 ∷ (128 ∷ []))
pair_text false true = 226 ∷ (150 ∷ (132 ∷ []))
pair_text false false = 32 ∷ []

-- the cell below the one at this row and column, if there is one
abbrev pub lower_cell : CellCounts → ℕ → ℕ → Bool
lower_cell m row col = nat_lt (row + 1) m.height && is_black m (row + 1) col

-- the cells of a row and of the one below it from left to right, and a line end
abbrev pub block_row_text : CellCounts → ℕ → List ℕ
block_row_text m row = flat_map (λ col. pair_text (is_black m row col) (lower_cell m row col))
    (below m.width) ++ (10 ∷ [])

-- the lines from the top, two rows each; of an odd number of rows the last one has white cells below
abbrev pub block_text : CellCounts → List ℕ
block_text m = flat_map (λ line. block_row_text m (line * 2)) (below (m.height / 2 + m.height % 2))
