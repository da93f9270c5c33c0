-- An iterator that goes on to the next lane has the same entries left.
use Rattle.std.proofs.Common.{◌≡◌, ℕ, suc, ◌+◌, ◌-◌, ◌<◌, List, [], ◌∷◌, length, slice_index}
use Rattle.std.proofs.Common.{slice_range, ap, sym, arith}
use Rattle.sparse_pattern.specs.Raw.{entries_from}
use Rattle.sparse_pattern.specs.Rest.{rest_of}

pub skip_lane : (offsets indices left : List ℕ) (i : ℕ) → length left ≡ 0 → i + 2 < length offsets
    → rest_of offsets indices (i + 1) (slice_range indices (slice_index offsets (i + 1))
    (slice_index offsets (i + 1 + 1))) ≡ rest_of offsets indices i left
skip_lane offsets indices [] i empty more =
    let e : length offsets - (i + 2) ≡ suc (length offsets - (i + 1 + 2)) = omega arith in
    sym (ap (entries_from offsets indices (i + 1)) e)
skip_lane offsets indices (x ∷ left) i empty more = absurd (omega arith)
