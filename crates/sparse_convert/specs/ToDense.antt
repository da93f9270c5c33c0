-- The dense matrix of a compressed matrix.
use Rattle.std.specs.Prelude.{ℕ, slice_index_or}
use Rattle.std.specs.Option.{option_map, unwrap_or}
use Rattle.sparse_coo_dense.specs.Dense.{Dense, HasValues}
use Rattle.sparse_compressed.specs.Compressed.{Compressed}
use Rattle.sparse_compressed.specs.StoredEntries.{find_offset}

module _ {T : Type 0} (zero : T) where
  -- the stored value at (i, j), or zero if there is no entry
  abbrev pub stored_or_zero : Compressed T → ℕ → ℕ → T
  stored_or_zero m i j = unwrap_or (option_map (λ p. slice_index_or m.values p zero)
      (find_offset m.pattern i j)) zero

  -- the shape and the values of compressed arrays with rows as lanes
  abbrev pub IsDenseOfRows : Compressed T → Dense T → Type 0
  IsDenseOfRows m = HasValues m.pattern.major_dim m.pattern.minor_dim
      (λ i j _. stored_or_zero m i j)

  -- the same with columns as lanes
  abbrev pub IsDenseOfCols : Compressed T → Dense T → Type 0
  IsDenseOfCols m = HasValues m.pattern.minor_dim m.pattern.major_dim
      (λ i j _. stored_or_zero m j i)
