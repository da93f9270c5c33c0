-- Bounds on the values of expressions.
use Rattle.std.specs.Prelude.{◌≡◌, ℕ, zero, suc, ◌+◌, ◌*◌, ◌^◌, ◌-◌, ◌≤◌, nat_lt, if◌then◌else◌, List, [], ◌∷◌, map}
use Rattle.std.specs.Prelude.{Option, Some, None, slice_get, unsigned_abs, max}
use Rattle.sparse_algebra.specs.Plain.{Plain}
use Rattle.sparse_algebra.specs.Whole.{whole_ring}
use Rattle.sparse_algebra.specs.WrappingValues.{w128_number}
use Rattle.sparse_algebra.specs.declared.scalar.wide.W128.{W128}
use Rattle.sparse_compressed.specs.Compressed.{Compressed}
use Rattle.sparse_expr.specs.declared.expr.Expr.{Expr}
use Rattle.sparse_expr.specs.declared.expr.Expr.TheVariants as tree
use Rattle.mtxkit_eval.specs.declared.extents.Extent.{Extent}

abbrev pub extent_from : ℕ → ℕ → ℕ → Extent
extent_from rows cols largest = record { rows = rows; cols = cols; largest = largest }

-- the number, or the greatest one of 128 bits if it has more bits
abbrev pub cap : ℕ → ℕ
cap n = if nat_lt n (2 ^ 128) then n else 2 ^ 128 - 1

abbrev pub capped : Extent → Extent
capped a = extent_from a.rows a.cols (cap a.largest)

abbrev pub found_extent : Option Extent → Extent
found_extent (Some a) = a
found_extent None = extent_from 0 0 0

-- the n-th extent, counted from 1
abbrev pub extent_at : List Extent → ℕ → Extent
extent_at inputs zero = extent_from 0 0 0
extent_at inputs (suc n) = found_extent (slice_get inputs n)

abbrev pub sum_extent : Extent → Extent → Extent
sum_extent a b = extent_from a.rows a.cols (a.largest + b.largest)

abbrev pub product_extent : Extent → Extent → Extent
product_extent a b = extent_from a.rows b.cols ((a.largest * b.largest) * a.cols)

abbrev pub transposed_extent : Extent → Extent
transposed_extent a = extent_from a.cols a.rows a.largest

-- the extent of the value of an expression over inputs with these extents
abbrev pub extent_of : List Extent → Expr → Extent
extent_of inputs (tree.Input n) = extent_at inputs n
extent_of inputs (tree.Add' p a q b) = sum_extent (extent_of inputs a) (extent_of inputs b)
extent_of inputs (tree.Sub' p a q b) = sum_extent (extent_of inputs a) (extent_of inputs b)
extent_of inputs (tree.Mul' p a q b) = product_extent (extent_of inputs a) (extent_of inputs b)
extent_of inputs (tree.Transpose' p a) = transposed_extent (extent_of inputs a)
extent_of inputs (tree.Neg' p a) = extent_of inputs a

-- the greatest of the numbers, or 0 if there are none
abbrev pub greatest : List ℕ → ℕ
greatest [] = 0
greatest (n ∷ ns) = max n (greatest ns)

-- the magnitude of an integer
abbrev pub magnitude : W128 → ℕ
magnitude v = unsigned_abs (w128_number v)

-- the shape of a matrix, and the greatest of its magnitudes
abbrev pub matrix_extent : Compressed W128 → Extent
matrix_extent m =
    extent_from m.pattern.major_dim m.pattern.minor_dim (greatest (map magnitude m.values))

-- the matrix has this shape, and no value has a greater magnitude
pub record IsWithin (a : Extent) (z : Plain whole_ring) : Type 0 where
  pub rows : z.rows ≡ a.rows
  pub cols : z.cols ≡ a.cols
  pub values : (i j : ℕ) → unsigned_abs (z.value i j) ≤ a.largest
