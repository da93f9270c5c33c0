-- The texts of pictures as SVG.
use Rattle.std.specs.Prelude.{ℕ, ◌-◌, ◌*◌, ◌/◌, ◌==◌, List, [], ◌++◌, codes, if◌then◌else◌, max}
use Rattle.std.specs.Fmt.{decimal}
use Rattle.std.specs.List.{flat_map}
use Rattle.sparse_algebra.specs.Plain.{below}
use Rattle.mtxkit_matrices.specs.Pictures.{CellCounts, count_at}
use Rattle.mtxkit_matrices.specs.LargestCounts.{largest}

-- the grey of a cell with entries, from 0, which is black, for `most` entries, to at most 224
abbrev pub shade : ℕ → ℕ → ℕ
shade count most = 224 - count * 224 / max most 1

-- a square of size 1, its upper left corner in this row and column, in this grey
unfoldable pub square : ℕ → ℕ → ℕ → List ℕ
square row col grey =
    codes "<rect x=\"" ++ (decimal col ++ (codes "\" y=\"" ++ (decimal row
    ++ (codes "\" width=\"1\" height=\"1\" fill=\"rgb(" ++ (decimal grey ++ (codes ","
    ++ (decimal grey ++ (codes "," ++ (decimal grey ++ codes ")\"/>\n")))))))))

-- the square of a cell, or nothing if no entry lies in it
unfoldable pub cell_square : CellCounts → ℕ → ℕ → ℕ → List ℕ
cell_square m most row col =
    if count_at m row col == 0 then [] else square row col (shade (count_at m row col) most)

-- the squares of a row from left to right
abbrev pub squares_of_row : CellCounts → ℕ → ℕ → List ℕ
squares_of_row m most row = flat_map (cell_square m most row) (below m.width)

-- the first line: a view of `width` by `height` cells, drawn without gaps between neighbours
unfoldable pub svg_view : ℕ → ℕ → List ℕ
svg_view width height =
    codes "<svg xmlns=\"http://www.w3.org/2000/svg\" viewBox=\"0 0 " ++ (decimal width ++ (codes " "
    ++ (decimal height ++ codes "\" shape-rendering=\"crispEdges\">\n")))

-- the next line: a white rectangle of the view's size
unfoldable pub white : List ℕ
white = codes "<rect width=\"100%\" height=\"100%\" fill=\"white\"/>\n"

-- the title: the shape of the matrix, and the number of its entries
unfoldable pub svg_title : ℕ → ℕ → ℕ → List ℕ
svg_title rows cols entries =
    codes "<title>" ++ (decimal rows ++ (codes " by " ++ (decimal cols ++ (codes ", "
    ++ (decimal entries ++ codes " places</title>\n")))))

-- the view, the title, a white rectangle, the squares of the rows from the top, and the end
abbrev pub svg_text : List ℕ → CellCounts → List ℕ
svg_text title m = svg_view m.width m.height
    ++ (title ++ (white ++ (flat_map (squares_of_row m (largest m.counts)) (below m.height)
    ++ codes "</svg>\n")))
