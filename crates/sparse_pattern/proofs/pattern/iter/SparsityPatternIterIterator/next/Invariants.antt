use Rattle.std.proofs.Common.{◌≡◌, ◌-◌, length}
use Rattle.sparse_pattern.specs.Rest.{rest_of}
use Rattle.sparse_pattern.proofs.pattern.iter.SparsityPatternIterIterator.next.Given as goal

abbrev pub invariant-loop-left : goal.invariant-loop-left
invariant-loop-left l = rest_of l.offsets l.indices l.lane l.left ≡ rest_of l.offsets l.indices
    l.initial.lane l.initial.left

abbrev pub decreases-loop-left : goal.decreases-loop-left
decreases-loop-left l = length l.offsets - l.lane
