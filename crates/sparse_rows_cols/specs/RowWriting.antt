-- A row of a CSR matrix with its values borrowed mutably, and the row after a borrow from it.
use Rattle.std.specs.Prelude.{ℕ, List, [], Option, slice_set, unwrap_or}
use Rattle.std.specs.Borrow.{Lends, follows_if, name_if_some, MutBor, Fml, GName, Array, RattleType}
use mathlib.Core.Option as maybe
use mir.Syntax.{named}
use Rattle.sparse_pattern.specs.SparseEntries.{entry_name}
use Rattle.sparse_pattern.specs.declared.entry.SparseEntryMut.{SparseEntryMut}
use Rattle.sparse_compressed.specs.Lanes.{Lane, lane_parts}
use Rattle.sparse_compressed.specs.MutIterators.{triplets_left, lanes_left, triplet_values, lane_values}
use Rattle.sparse_compressed.specs.Writing.{index_in}
use Rattle.sparse_rows_cols.specs.declared.row_triplets.CsrTripletIterMut.{CsrTripletIterMut}
use Rattle.sparse_rows_cols.specs.declared.row_mut.CsrRowIterMut.{CsrRowIterMut}
use Rattle.sparse_rows_cols.specs.declared.row_mut.CsrRowMut.{CsrRowMut}
use Rattle.sparse_rows_cols.specs.contracts.row_mut.CsrRowMut.{the_row as row_type}

module _ {T : Type 0} where
  -- the row as a lane, with its values as they are at this time
  abbrev pub row_as_lane : CsrRowMut T → Lane T
  row_as_lane s = lane_parts s.ncols s.col_indices s.values.now

  -- the values of the row
  abbrev pub row_values : CsrRowMut T → MutBor (List T)
  row_values s = s.values

  -- the ghost name of the borrow of the values, if there is a row
  abbrev pub row_name : Option (CsrRowMut T) → maybe.Option GName
  row_name = name_if_some (λ s. s.values.ghost_name)

  -- the row with ws as its values
  abbrev pub row_with_values : CsrRowMut T → List T → CsrRowMut T
  row_with_values s ws = record s { values = record s.values { now = ws } }

  -- the row with another value at the offset k
  abbrev pub row_with_value_at : CsrRowMut T → ℕ → T → CsrRowMut T
  row_with_value_at s k w = row_with_values s (slice_set s.values.now k w)

  -- the row with another value at the column j, which is stored
  abbrev pub row_with_value : CsrRowMut T → ℕ → T → CsrRowMut T
  row_with_value s j w = row_with_value_at s (unwrap_or (index_in s.col_indices j) 0) w

  -- the remaining triplets
  abbrev pub csr_triplets_left : CsrTripletIterMut T → List (ℕ × ℕ × T)
  csr_triplets_left it = triplets_left it.lanes

  -- the values that the iterators borrow mutably
  abbrev pub csr_triplet_values : CsrTripletIterMut T → MutBor (List T)
  csr_triplet_values it = triplet_values it.lanes

  abbrev pub all_row_values : CsrRowIterMut T → MutBor (List T)
  all_row_values it = lane_values it.lanes

  -- the remaining rows
  abbrev pub rows_left : CsrRowIterMut T → List (Lane T)
  rows_left it = lanes_left it.lanes

-- after the borrow the row has the values last written through it
module _ (T : RattleType) (s : MutBor (CsrRowMut T.Denot)) where
  abbrev pub LendsRowValues : MutBor (List T.Denot) → Fml
  LendsRowValues r = Lends (row_type (record { mir = named 1; lft = [] }) T) (Array T 0) s r
      (row_with_values s.now)

  abbrev pub LendsRowEntry : ℕ → Option (SparseEntryMut T.Denot) → Fml
  LendsRowEntry j r = follows_if (row_type (record { mir = named 1; lft = [] }) T) T s.ghost_name
      (entry_name r) (row_with_value s.now j) s.now
