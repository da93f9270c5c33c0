-- The triplets of a block of rows.
use Rattle.std.specs.Prelude.{◌≡◌, ℕ, ◌-◌, ◌&&◌, Bool, nat_le}
use Rattle.std.specs.Prelude.{nat_lt, if◌then◌else◌, List, [], ◌∷◌, ◌++◌}
use Rattle.std.specs.List.{flat_map}
use Rattle.nalgebra_sparse.specs.Coo.{Coo}

module _ {T : Type 0} (start nrows ncols : ℕ) where
  -- whether a triplet lies in the block: these rows, and this many columns
  abbrev pub is_in_block : ℕ × ℕ × T → Bool
  is_in_block t = nat_le start t.0 && (nat_lt (t.0 - start) nrows && nat_lt t.1 ncols)

  -- the triplet in the block, if it lies there; its row counts from the start of the block
  abbrev pub one_in_block : ℕ × ℕ × T → List (ℕ × ℕ × T)
  one_in_block t = if is_in_block t then (t.0 - start, t.1, t.2) ∷ [] else []

  -- a list of the shape of the block, to which the triplets of `rest` are still to be appended
  pub record IsBlockWithout (all rest : List (ℕ × ℕ × T)) (list : Coo T) : Type 0 where
    pub rows : list.nrows ≡ nrows
    pub cols : list.ncols ≡ ncols
    pub triplets : list.triplets ++ flat_map one_in_block rest ≡ flat_map one_in_block all
