-- Values borrowed mutably, all or those of some columns, and the matrix after the borrow.
use Rattle.std.specs.Prelude.{ℕ, List}
use Rattle.std.specs.Borrow.{Lends, MutBor, Fml, Array, RattleType}
use Rattle.sparse_coo_dense.specs.Dense.{Dense, with_column, with_values}
use Rattle.sparse_coo_dense.specs.contracts.dense.DMatrix.{the_row}

-- after the borrow the columns from j on have the values last written through the slice
abbrev pub LendsColumn : (T : RattleType) → MutBor (Dense T.Denot) → ℕ → MutBor (List T.Denot) → Fml
LendsColumn T s j r = Lends (the_row T) (Array T 0) s r (with_column s.now j)

-- after the borrow the matrix has the values last written through the slice
abbrev pub LendsValues : (T : RattleType) → MutBor (Dense T.Denot) → MutBor (List T.Denot) → Fml
LendsValues T s r = Lends (the_row T) (Array T 0) s r (with_values s.now)
