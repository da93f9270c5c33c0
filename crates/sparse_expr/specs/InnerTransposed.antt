-- The plain matrix of a CSR matrix, or its transpose.
use Rattle.std.specs.Prelude.{Bool, true, false}
use Rattle.sparse_algebra.specs.Algebra.{CommRing}
use Rattle.sparse_algebra.specs.Plain.{Plain, plain_transpose}
use Rattle.sparse_compressed.specs.Compressed.{Compressed}
use Rattle.sparse_compressed.specs.PlainOfLanes.{plain_of_rows}

module _ (R : CommRing) {T : Type 0} (f : T → R.Carrier) where
  -- the plain matrix of the rows, or its transpose
  abbrev pub rows_or_transposed : Bool → Compressed T → Plain R
  rows_or_transposed true m = plain_transpose R (plain_of_rows R f m)
  rows_or_transposed false m = plain_of_rows R f m
