-- The rows and columns of the entries left of an array.
use Rattle.std.specs.Prelude.{ℕ, ◌+◌, ◌-◌, ◌++◌, List, [], map, nat_lt, if◌then◌else◌}
use Rattle.std.specs.List.{flat_map, range_with_len}
use Rattle.sparse_io.specs.declared.reader.places.Places.{Places}
use Rattle.sparse_parser.specs.declared.header.Symmetry.{Symmetry}
use Rattle.sparse_parser.specs.ArrayPlaces.{column}

-- the entries left of a column, from a row on
abbrev pub column_left : ℕ → ℕ → ℕ → List (ℕ × ℕ)
column_left rows row col = map (λ r. (r, col)) (range_with_len row (rows - row))

-- the entries of the columns from one on
abbrev pub columns_left : Symmetry → ℕ → ℕ → ℕ → List (ℕ × ℕ)
columns_left s rows cols col = flat_map (column s rows) (range_with_len col (cols - col))

abbrev pub left_from : Symmetry → ℕ → ℕ → ℕ → ℕ → List (ℕ × ℕ)
left_from s rows cols row col = if nat_lt col cols then column_left rows row col ++ columns_left s
    rows cols (col + 1) else []

unfoldable pub places_left : Places → List (ℕ × ℕ)
places_left p = left_from p.symmetry p.rows p.cols p.row p.col
