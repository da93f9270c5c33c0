-- The triplet list in the data struct `CooData`.
use Rattle.sparse_coo_dense.specs.Coo.{Coo, coo_of, zip_triplets, AreParts}
use Rattle.sparse_serde.specs.declared.coo.CooData.{CooData}

module _ {T : Type 0} where
  -- the shape and the triplets of the struct, zipped from its three lists
  abbrev pub coo_in : CooData T → Coo T
  coo_in d = coo_of d.nrows d.ncols (zip_triplets d.row_indices.items d.col_indices.items
      d.values.items)

  -- the three lists have the same length, and their indices are within the shape
  abbrev pub IsCooData : CooData T → Type 0
  IsCooData d = AreParts d.nrows d.ncols d.row_indices.items d.col_indices.items d.values.items
