-- Arrays that are longer than the result are unchanged after it.
use Rattle.std.specs.Prelude.{◌≡◌, ℕ, ◌+◌, List, drop}
use Rattle.c_arrays.specs.Arrays.{PatternOutputArrays, OutputArrays}
use Rattle.c_arrays.specs.Lists.{ListOutputArrays}

-- the array is unchanged after its first n items
abbrev pub KeepsBehind : {T : Type 0} → ℕ → List T → List T → Type 0
KeepsBehind n old new = drop n new ≡ drop n old

-- the arrays are unchanged after a matrix with this many rows
pub record KeepsRest (rows : ℕ) (old new : OutputArrays) : Type 0 where
  pub offsets : KeepsBehind (rows + 1) old.offsets new.offsets
  pub indices : KeepsBehind new.places old.indices new.indices
  pub values : KeepsBehind new.places old.values new.values

-- the arrays are unchanged after a pattern with this many lanes
pub record KeepsPatternRest (lanes : ℕ) (old new : PatternOutputArrays) : Type 0 where
  pub offsets : KeepsBehind (lanes + 1) old.offsets new.offsets
  pub indices : KeepsBehind new.places old.indices new.indices

-- the arrays are unchanged after the triplets
pub record KeepsListRest (old new : ListOutputArrays) : Type 0 where
  pub rows : KeepsBehind new.count old.rows new.rows
  pub cols : KeepsBehind new.count old.cols new.cols
  pub values : KeepsBehind new.count old.values new.values
