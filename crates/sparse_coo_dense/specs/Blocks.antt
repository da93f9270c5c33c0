-- The triplets of a dense block.
use Rattle.std.specs.Prelude.{◌≡◌, ℕ, ◌+◌, ◌*◌, ◌≤◌, ◌⊎◌, List, map, slice_get}
use Rattle.std.specs.Option.{option_to_list}
use Rattle.std.specs.List.{flat_map}
use Rattle.sparse_algebra.specs.Plain.{below}
use Rattle.sparse_coo_dense.specs.Coo.{Coo}
use Rattle.sparse_coo_dense.specs.Dense.{Dense}

module _ {T : Type 0} where
  -- the triplet of the value at (i, j) of a block that is placed at row r and column c of a matrix; no
  -- triplet if the block has no such value
  abbrev pub triplet_at : ℕ → ℕ → Dense T → ℕ → ℕ → List (ℕ × ℕ × T)
  triplet_at r c d j i = map (λ v. (r + i, c + j, v))
      (option_to_list (slice_get d.values (j * d.nrows + i)))

  -- the triplets of the block, column by column
  abbrev pub block_triplets : ℕ → ℕ → Dense T → List (ℕ × ℕ × T)
  block_triplets r c d = flat_map (λ j. flat_map (triplet_at r c d j) (below d.nrows))
      (below d.ncols)

  -- the block has no values
  abbrev pub IsEmptyBlock : Dense T → Type 0
  IsEmptyBlock d = (d.nrows ≡ 0) ⊎ (d.ncols ≡ 0)

  -- the block, placed at row r and column c, lies within m
  abbrev pub IsBlockInside : Coo T → ℕ → ℕ → Dense T → Type 0
  IsBlockInside m r c d = (r + d.nrows ≤ m.nrows) × (c + d.ncols ≤ m.ncols)
