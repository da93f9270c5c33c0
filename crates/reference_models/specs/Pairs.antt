-- Pairs of a row and a column.
use Rattle.std.specs.Prelude.{ℕ}

abbrev pub pair : ℕ → ℕ → ℕ × ℕ
pair i j = (i, j)
