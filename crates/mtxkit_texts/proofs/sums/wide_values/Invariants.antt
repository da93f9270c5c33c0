use Rattle.std.proofs.Common.{◌≡◌, map, take}
use Rattle.sparse_algebra.specs.WrappingValues.{w128_number}
use Rattle.mtxkit_texts.proofs.sums.wide_values.Given as goal

abbrev pub invariant-loop-integer : goal.invariant-loop-integer
invariant-loop-integer l = map w128_number l.values.items ≡ take l.integer-index l.integers
