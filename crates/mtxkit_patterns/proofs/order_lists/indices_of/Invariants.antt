use Rattle.std.proofs.Common.{◌≡◌, map, take}
use Rattle.mtxkit_patterns.specs.OrderLists.{index_of}
use Rattle.mtxkit_patterns.proofs.order_lists.indices_of.Given as goal

abbrev pub invariant-loop-number : goal.invariant-loop-number
invariant-loop-number l = l.indices.items ≡ map index_of (take l.number-index l.numbers)
