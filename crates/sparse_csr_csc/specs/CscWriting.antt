-- Values of a CSC matrix borrowed mutably, and the matrix after the borrow.
use Rattle.std.specs.Prelude.{ℕ, List, Option}
use Rattle.std.specs.Borrow.{Lends, follows_if, MutBor, Fml, Array, RattleType}
use Rattle.sparse_pattern.specs.SparseEntries.{entry_name, indexed_name}
use Rattle.sparse_pattern.specs.declared.entry.SparseEntryMut.{SparseEntryMut}
use Rattle.sparse_compressed.specs.Compressed.{Compressed}
use Rattle.sparse_compressed.specs.Writing.{with_values, with_lane, with_value}
use Rattle.sparse_rows_cols.specs.ColWriting.{col_name}
use Rattle.sparse_rows_cols.specs.declared.col_mut.CscColMut.{CscColMut}
use Rattle.sparse_csr_csc.specs.contracts.csc.CscMatrix.{the_row as matrix_type}

-- after the borrow the matrix has the values last written through the result
module _ (T : RattleType) (s : MutBor (Compressed T.Denot)) where
  abbrev pub LendsValues : MutBor (List T.Denot) → Fml
  LendsValues r = Lends (matrix_type T) (Array T 0) s r (with_values s.now)

  abbrev pub LendsCol : ℕ → MutBor (List T.Denot) → Fml
  LendsCol i r = Lends (matrix_type T) (Array T 0) s r (with_lane s.now i)

  -- the matrix is unchanged if there is no column
  abbrev pub LendsColIf : ℕ → Option (CscColMut T.Denot) → Fml
  LendsColIf i r = follows_if (matrix_type T) (Array T 0) s.ghost_name (col_name r)
      (with_lane s.now i) s.now

  abbrev pub LendsEntry : ℕ → ℕ → Option (SparseEntryMut T.Denot) → Fml
  LendsEntry i j r = follows_if (matrix_type T) T s.ghost_name (entry_name r) (with_value s.now i j)
      s.now

  abbrev pub LendsIndexed : ℕ → ℕ → SparseEntryMut T.Denot → Fml
  LendsIndexed i j r = follows_if (matrix_type T) T s.ghost_name (indexed_name r)
      (with_value s.now i j) s.now
