-- The size of a picture of a matrix.
use Rattle.std.specs.Prelude.{ℕ, ◌*◌, ◌/◌, nat_le, if◌then◌else◌, min, max}

-- the number of cells of a side if `size` cells stand for the longest side: in the same ratio, rounded
-- down, and at least 1 unless the side is 0
abbrev pub scaled_side : ℕ → ℕ → ℕ → ℕ
scaled_side side longest size = max (min side 1) (side * size / longest)

-- the height and the width of a picture whose sides have at most `size` cells: a cell for each row
-- and column if neither side exceeds `size`, and otherwise both sides scaled by the same factor
abbrev pub picture_sizes : ℕ → ℕ → ℕ → ℕ × ℕ
picture_sizes rows cols size =
    let longest = max rows cols in
    if nat_le longest size then (rows, cols)
    else (scaled_side rows longest size, scaled_side cols longest size)
