use Rattle.std.proofs.Common.{ℕ, ℤ, ◌<◌, slice_index_or}
use Rattle.std.specs.Int.{w64}
use Rattle.std.specs.Int.RustNames.{FitsSigned}
use Rattle.mtxkit_texts.proofs.sums.are_narrow.Given as goal

abbrev pub invariant-loop-integer : goal.invariant-loop-integer
invariant-loop-integer l = (k : ℕ) (d : ℤ) → k < l.integer-index
    → FitsSigned w64 (slice_index_or l.integers k d)
