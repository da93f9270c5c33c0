-- The row after a borrow from it, for the contracts of the private functions of `row_mut`.
use Rattle.std.specs.Prelude.{ℕ, []}
use Rattle.std.specs.Borrow.{Lends, follows_if, MutBor, Fml, RattleType}
use mir.Syntax.{named}
use Rattle.sparse_pattern.specs.SparseEntries.{found_name}
use Rattle.sparse_pattern.specs.declared.entry.Found.{Found}
use Rattle.sparse_rows_cols.specs.RowWriting.{row_with_value, row_with_value_at}
use Rattle.sparse_rows_cols.specs.declared.row_mut.CsrRowMut.{CsrRowMut}
use Rattle.sparse_rows_cols.specs.contracts.row_mut.CsrRowMut.{the_row as row_type}

module _ (T : RattleType) (s : MutBor (CsrRowMut T.Denot)) where
  abbrev pub LendsRowAt : ℕ → MutBor T.Denot → Fml
  LendsRowAt k r = Lends (row_type (record { mir = named 1; lft = [] }) T) T s r
      (row_with_value_at s.now k)

  abbrev pub LendsRowFound : ℕ → Found T.Denot → Fml
  LendsRowFound j r = follows_if (row_type (record { mir = named 1; lft = [] }) T) T s.ghost_name
      (found_name r) (row_with_value s.now j) s.now
