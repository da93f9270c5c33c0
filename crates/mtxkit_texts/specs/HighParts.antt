-- The high parts of integers, by which it is tested whether a sum modulo 2 ^ 128 is exact.
use Rattle.std.specs.Prelude.{ℕ, ℤ, pos, ◌^◌, ◌<◌, ◌+ℤ◌, ◌≤ℤ◌, List, length, slice_index_or}
use Rattle.std.specs.Int.Signed.{shr_z}
use Rattle.sparse_algebra.specs.WrappingValues.{w128_number}
use Rattle.sparse_algebra.specs.declared.scalar.wide.W128.{W128}

-- the integer divided by 2 ^ 64, rounded down
abbrev pub high_part : ℤ → ℤ
high_part z = shr_z z (2 ^ 64)

-- the high part of the sum is between this number and n more
abbrev pub IsNear : ℤ → ℤ → ℕ → Type 0
IsNear sum high n = (high ≤ℤ high_part sum) × (high_part sum ≤ℤ (high +ℤ pos n))

-- the same of each sum k and element k of the other list
abbrev pub AreNear : List W128 → List W128 → ℕ → Type 0
AreNear sums highs n = (k : ℕ) (z : W128) → k < length sums
    → IsNear (w128_number (slice_index_or sums k z)) (w128_number (slice_index_or highs k z)) n
