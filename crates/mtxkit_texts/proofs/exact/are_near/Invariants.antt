use Rattle.std.proofs.Common.{ℕ, ◌<◌, slice_index_or}
use Rattle.sparse_algebra.specs.WrappingValues.{w128_number}
use Rattle.sparse_algebra.specs.declared.scalar.wide.W128.{W128}
use Rattle.mtxkit_texts.specs.HighParts.{IsNear}
use Rattle.mtxkit_texts.proofs.exact.are_near.Given as goal

abbrev pub invariant-loop-k : goal.invariant-loop-k
invariant-loop-k l = (i : ℕ) (z : W128) → i < l.k
    → IsNear (w128_number (slice_index_or l.sums i z)) (w128_number (slice_index_or l.highs i z)) l.entries
