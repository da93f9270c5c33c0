-- The rows and columns of lists of triplets.
use Rattle.std.specs.Prelude.{◌≡◌, ℕ, ◌↔◌, IsTrue}
use Rattle.std.specs.List.{list_any}
use Rattle.sparse_algebra.specs.Plain.{is_at}
use Rattle.sparse_coo_dense.specs.Coo.{Coo}
use Rattle.sparse_pattern.specs.Raw.{Raw, IsEntry}

-- the pattern, which is stored by rows, has the shape of the list and exactly the rows and columns of its triplets
pub record HasEntriesOf {T : Type 0} (list : Coo T) (p : Raw) : Type 0 where
  pub rows : p.major_dim ≡ list.nrows
  pub cols : p.minor_dim ≡ list.ncols
  pub entries : (i j : ℕ) → IsEntry p i j ↔ IsTrue (list_any (is_at i j) list.triplets)
