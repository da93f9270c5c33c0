-- What a test of an offset in a lane has established.
use Rattle.std.specs.Prelude.{ℕ, ◌-◌, ◌<◌, List, slice_index}

-- the index at the offset is below the minor size and above the one before it in its lane
abbrev pub IsFineAt : ℕ → List ℕ → ℕ → ℕ → Type 0
IsFineAt minor_dim indices start at =
    (slice_index indices at < minor_dim)
    × (start < at → slice_index indices (at - 1) < slice_index indices at)
