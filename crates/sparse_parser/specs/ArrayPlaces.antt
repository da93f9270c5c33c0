-- The rows and columns of the entries of a text in the array format.
use Rattle.std.specs.Prelude.{ℕ, ◌+◌, ◌-◌, ◌*◌, ◌/◌, List, [], map}
use Rattle.std.specs.List.{flat_map, range_with_len}
use Rattle.sparse_parser.specs.declared.header.Format.{Format}
use Rattle.sparse_parser.specs.declared.header.Format.TheVariants.{Coordinate, Array}
use Rattle.sparse_parser.specs.declared.header.Symmetry.{Symmetry}
use Rattle.sparse_parser.specs.declared.header.Symmetry.TheVariants.{General, Symmetric}
use Rattle.sparse_parser.specs.declared.header.Symmetry.TheVariants.{SkewSymmetric, Hermitian}

-- the first row that a data line gives of a column: 0, the row of the diagonal, or the row below it
abbrev pub first_row : Symmetry → ℕ → ℕ
first_row General col = 0
first_row Symmetric col = col
first_row SkewSymmetric col = col + 1
first_row Hermitian col = col

-- the entries of a column, as pairs (row, column)
abbrev pub column : Symmetry → ℕ → ℕ → List (ℕ × ℕ)
column s rows col =
    map (λ row. (row, col)) (range_with_len (first_row s col) (rows - first_row s col))

-- the entries of an array, as pairs (row, column), column by column
unfoldable pub array_places : Symmetry → ℕ → ℕ → List (ℕ × ℕ)
array_places s rows cols = flat_map (column s rows) (range_with_len 0 cols)

-- the pairs (row, column) of the data lines of an array; none in the coordinate format, whose lines
-- name their own
abbrev pub places_of : Format → Symmetry → ℕ → ℕ → List (ℕ × ℕ)
places_of Coordinate s rows cols = []
places_of Array s rows cols = array_places s rows cols

-- the number of data lines of an array
unfoldable pub array_count : Symmetry → ℕ → ℕ → ℕ
array_count General rows cols = rows * cols
array_count Symmetric rows cols = rows * (rows + 1) / 2
array_count SkewSymmetric rows cols = rows * (rows - 1) / 2
array_count Hermitian rows cols = rows * (rows + 1) / 2
