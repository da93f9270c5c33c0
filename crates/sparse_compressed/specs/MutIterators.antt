-- What the mutable iterators have not yielded yet.
use Rattle.std.specs.Prelude.{ℕ, zero, suc, ◌+◌, ◌-◌, List, [], ◌∷◌, length, take, drop}
use Rattle.std.specs.Borrow.{MutBor}
use Rattle.sparse_pattern.specs.Raw.{Raw, lane_of}
use Rattle.sparse_compressed.specs.Compressed.{zip_values}
use Rattle.sparse_compressed.specs.Lanes.{Lane, lane_parts}
use Rattle.sparse_compressed.specs.declared.lane_iter_mut.CsLaneMut.{CsLaneMut}
use Rattle.sparse_compressed.specs.declared.lane_iter_mut.CsLaneIterMut.{CsLaneIterMut}
use Rattle.sparse_compressed.specs.declared.triplet_iter_mut.CsTripletIterMut.{CsTripletIterMut}

module _ {T : Type 0} where
  -- the remaining triplets
  abbrev pub triplets_left : CsTripletIterMut T → List (ℕ × ℕ × T)
  triplets_left it = zip_values it.entries it.values.now

  -- the values that the iterators borrow mutably
  abbrev pub triplet_values : CsTripletIterMut T → MutBor (List T)
  triplet_values it = it.values

  abbrev pub lane_values : CsLaneIterMut T → MutBor (List T)
  lane_values it = it.values

  -- the lane, with its values as they are at this time
  abbrev pub lane_of_mut : CsLaneMut T → Lane T
  lane_of_mut l = lane_parts l.minor_dim l.indices l.values.now

  -- the n lanes from lane i on, whose values are those given, one lane after another
  abbrev pub lanes_with : Raw → ℕ → ℕ → List T → List (Lane T)
  lanes_with d i zero values = []
  lanes_with d i (suc n) values = lane_parts d.minor_dim (lane_of d i)
      (take (length (lane_of d i)) values) ∷ lanes_with d (i + 1) n
      (drop (length (lane_of d i)) values)

  -- the remaining lanes
  abbrev pub lanes_left : CsLaneIterMut T → List (Lane T)
  lanes_left it = lanes_with it.pattern.now it.current_lane
      (it.pattern.now.major_dim - it.current_lane) it.values.now
