use Rattle.std.proofs.Common.{◌≡◌, ◌++◌, map}
use Rattle.sparse_pattern.specs.Raw.{entries_of}
use Rattle.sparse_convert.proofs.serial.triplets.lanes_of_entries.Given as goal

abbrev pub invariant-loop-lane : goal.invariant-loop-lane
invariant-loop-lane l = l.lanes.items ++ map (λ place. place.0) l.lane-iterator ≡ map
    (λ place. place.0) (entries_of l.pattern)
