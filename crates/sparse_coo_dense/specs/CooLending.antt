-- The triplets that a mutable iterator has yet to yield, and the matrix after the borrow.
use Rattle.std.specs.Prelude.{ℕ, List}
use Rattle.std.specs.Borrow.{Lends, MutBor, Fml, Array, RattleType}
use Rattle.sparse_coo_dense.specs.Coo.{Coo, coo_of, zip_triplets}
use Rattle.sparse_coo_dense.specs.CooEquality.{rows_of, cols_of, values_of}
use Rattle.sparse_pattern.specs.Refill.{refill}
use Rattle.sparse_coo_dense.specs.declared.coo.iter.CooTripletIterMut.{CooTripletIterMut}
use Rattle.sparse_coo_dense.specs.contracts.coo.CooMatrix.{the_row}

-- the remaining triplets, in order
abbrev pub remaining_triplets : {T : Type 0} → CooTripletIterMut T → List (ℕ × ℕ × T)
remaining_triplets it = zip_triplets it.rows.now it.cols.now it.values.now

-- the values that the iterator borrows mutably
abbrev pub borrowed_values : {T : Type 0} → CooTripletIterMut T → MutBor (List T)
borrowed_values it = it.values

-- the matrix with other values and the same shape, rows and columns
abbrev pub with_values : {T : Type 0} → Coo T → List T → Coo T
with_values m ws = coo_of m.nrows m.ncols
    (zip_triplets (rows_of m) (cols_of m) (refill (values_of m) ws))

-- after the borrow the matrix has the values last written through the items
abbrev pub LendsTriplets : (T : RattleType) → MutBor (Coo T.Denot) → MutBor (List T.Denot) → Fml
LendsTriplets T s r = Lends (the_row T) (Array T 0) s r (with_values s.now)
