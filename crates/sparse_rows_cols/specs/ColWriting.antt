-- A column of a CSC matrix with its values borrowed mutably, and the column after a borrow from it.
use Rattle.std.specs.Prelude.{ℕ, List, [], Option, map, slice_set, unwrap_or}
use Rattle.std.specs.Borrow.{Lends, follows_if, name_if_some, MutBor, Fml, GName, Array, RattleType}
use mathlib.Core.Option as maybe
use mir.Syntax.{named}
use Rattle.sparse_pattern.specs.SparseEntries.{entry_name}
use Rattle.sparse_pattern.specs.declared.entry.SparseEntryMut.{SparseEntryMut}
use Rattle.sparse_compressed.specs.Compressed.{transposed}
use Rattle.sparse_compressed.specs.Lanes.{Lane, lane_parts}
use Rattle.sparse_compressed.specs.MutIterators.{triplets_left, lanes_left, triplet_values, lane_values}
use Rattle.sparse_compressed.specs.Writing.{index_in}
use Rattle.sparse_rows_cols.specs.declared.col_triplets.CscTripletIterMut.{CscTripletIterMut}
use Rattle.sparse_rows_cols.specs.declared.col_mut.CscColIterMut.{CscColIterMut}
use Rattle.sparse_rows_cols.specs.declared.col_mut.CscColMut.{CscColMut}
use Rattle.sparse_rows_cols.specs.contracts.col_mut.CscColMut.{the_row as col_type}

module _ {T : Type 0} where
  -- the column as a lane, with its values as they are at this time
  abbrev pub col_as_lane : CscColMut T → Lane T
  col_as_lane s = lane_parts s.nrows s.row_indices s.values.now

  -- the values of the column
  abbrev pub col_values : CscColMut T → MutBor (List T)
  col_values s = s.values

  -- the ghost name of the borrow of the values, if there is a column
  abbrev pub col_name : Option (CscColMut T) → maybe.Option GName
  col_name = name_if_some (λ s. s.values.ghost_name)

  -- the column with ws as its values
  abbrev pub col_with_values : CscColMut T → List T → CscColMut T
  col_with_values s ws = record s { values = record s.values { now = ws } }

  -- the column with another value at the offset k
  abbrev pub col_with_value_at : CscColMut T → ℕ → T → CscColMut T
  col_with_value_at s k w = col_with_values s (slice_set s.values.now k w)

  -- the column with another value at the row j, which is stored
  abbrev pub col_with_value : CscColMut T → ℕ → T → CscColMut T
  col_with_value s j w = col_with_value_at s (unwrap_or (index_in s.row_indices j) 0) w

  -- the remaining triplets (row, column, value)
  abbrev pub csc_triplets_left : CscTripletIterMut T → List (ℕ × ℕ × T)
  csc_triplets_left it = map transposed (triplets_left it.lanes)

  -- the values that the iterators borrow mutably
  abbrev pub csc_triplet_values : CscTripletIterMut T → MutBor (List T)
  csc_triplet_values it = triplet_values it.lanes

  abbrev pub all_col_values : CscColIterMut T → MutBor (List T)
  all_col_values it = lane_values it.lanes

  -- the remaining columns
  abbrev pub cols_left : CscColIterMut T → List (Lane T)
  cols_left it = lanes_left it.lanes

-- after the borrow the column has the values last written through it
module _ (T : RattleType) (s : MutBor (CscColMut T.Denot)) where
  abbrev pub LendsColValues : MutBor (List T.Denot) → Fml
  LendsColValues r = Lends (col_type (record { mir = named 1; lft = [] }) T) (Array T 0) s r
      (col_with_values s.now)

  abbrev pub LendsColEntry : ℕ → Option (SparseEntryMut T.Denot) → Fml
  LendsColEntry j r = follows_if (col_type (record { mir = named 1; lft = [] }) T) T s.ghost_name
      (entry_name r) (col_with_value s.now j) s.now
