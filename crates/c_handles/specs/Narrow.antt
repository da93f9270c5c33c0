-- Arrays with indices of 32 bits.
use Rattle.std.specs.Prelude.{◌≡◌, ◌⊎◌, ◌<◌, ℕ, Option, None, Some}
use Rattle.std.specs.List.{All}
use Rattle.sparse_algebra.specs.declared.scalar.wrapping.W64.{W64}
use Rattle.c_arrays.specs.Arrays.{OutputArrays}
use Rattle.c_arrays.specs.Refused.{IsTooSmall}
use Rattle.c_arrays.specs.declared.refusal.Refusal.{Refusal}
use Rattle.c_arrays.specs.declared.refusal.Refusal.TheVariants.{IndexOutOfBounds, TooSmall}
use Rattle.sparse_compressed.specs.Compressed.{Compressed}
use Rattle.c_handles.specs.Held.{plain_held, IsEmpty}

-- below 2^31
abbrev pub IsNarrow : ℕ → Type 0
IsNarrow n = n < 2147483648

-- the error of a matrix with an offset or an index that is not below 2^31
abbrev pub IsTooWide : Compressed W64 → Refusal → Type 0
IsTooWide m refusal = (refusal ≡ IndexOutOfBounds)
    × ((All IsNarrow m.pattern.offsets → ⊥) ⊎ (All IsNarrow m.pattern.indices → ⊥))

-- all offsets and indices are below 2^31
pub record HasNarrowIndices (m : Compressed W64) : Type 0 where
  pub offsets : All IsNarrow m.pattern.offsets
  pub indices : All IsNarrow m.pattern.indices

-- the handle holds such a matrix
abbrev pub HoldsNarrow : Option (Compressed W64) → Type 0
HoldsNarrow None = ⊥
HoldsNarrow (Some m) = HasNarrowIndices m

-- the error of the matrix that a handle holds
abbrev pub IsHeldTooWide : Option (Compressed W64) → Refusal → Type 0
IsHeldTooWide None refusal = ⊥
IsHeldTooWide (Some m) refusal = IsTooWide m refusal

-- the error of a call that writes the arrays of a matrix with indices of 32 bits: the handle is empty, or an offset or
-- an index is not below 2^31, or else an array is too small for its matrix
abbrev pub IsUnwrittenNarrow : Option (Compressed W64) → OutputArrays → Refusal → Type 0
IsUnwrittenNarrow a room refusal = IsEmpty a refusal ⊎ (IsHeldTooWide a refusal
    ⊎ (HoldsNarrow a × (refusal ≡ TooSmall) × IsTooSmall (plain_held a) room))
