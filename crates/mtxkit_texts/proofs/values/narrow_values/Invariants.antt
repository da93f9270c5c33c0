use Rattle.std.proofs.Common.{◌≡◌, map, take}
use Rattle.sparse_algebra.specs.Numbers.{w64_number}
use Rattle.sparse_algebra.specs.WrappingValues.{w128_number}
use Rattle.mtxkit_texts.proofs.values.narrow_values.Given as goal

abbrev pub invariant-loop-value : goal.invariant-loop-value
invariant-loop-value l = map w64_number l.narrow.items ≡ map w128_number (take l.value-index l.values)
