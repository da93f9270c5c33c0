-- The column after a borrow from it, for the contracts of the private functions of `col_mut`.
use Rattle.std.specs.Prelude.{ℕ, []}
use Rattle.std.specs.Borrow.{Lends, follows_if, MutBor, Fml, RattleType}
use mir.Syntax.{named}
use Rattle.sparse_pattern.specs.SparseEntries.{found_name}
use Rattle.sparse_pattern.specs.declared.entry.Found.{Found}
use Rattle.sparse_rows_cols.specs.ColWriting.{col_with_value, col_with_value_at}
use Rattle.sparse_rows_cols.specs.declared.col_mut.CscColMut.{CscColMut}
use Rattle.sparse_rows_cols.specs.contracts.col_mut.CscColMut.{the_row as col_type}

module _ (T : RattleType) (s : MutBor (CscColMut T.Denot)) where
  abbrev pub LendsColAt : ℕ → MutBor T.Denot → Fml
  LendsColAt k r = Lends (col_type (record { mir = named 1; lft = [] }) T) T s r
      (col_with_value_at s.now k)

  abbrev pub LendsColFound : ℕ → Found T.Denot → Fml
  LendsColFound j r = follows_if (col_type (record { mir = named 1; lft = [] }) T) T s.ghost_name
      (found_name r) (col_with_value s.now j) s.now
