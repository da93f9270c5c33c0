use Rattle.std.proofs.Common.{◌≡◌, map, take}
use Rattle.sparse_algebra.specs.WrappingValues.{w128_number}
use Rattle.mtxkit_texts.specs.HighParts.{high_part}
use Rattle.mtxkit_texts.proofs.exact.high_parts.Given as goal

abbrev pub invariant-loop-integer : goal.invariant-loop-integer
invariant-loop-integer l =
    l.parts.items ≡ map (λ v. high_part (w128_number v)) (take l.integer-index l.integers)
