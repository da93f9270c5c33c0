-- The raw data of a pattern, and the entries that it describes.
use Rattle.std.specs.Prelude.{◌≡◌, ℕ, zero, suc, ◌+◌, ◌-◌, ◌<◌, ◌≤◌, ◌⊎◌, ◌↔◌, ◌==◌, Bool, List, []}
use Rattle.std.specs.Prelude.{◌++◌, map, length, replicate, slice_index, slice_range}
use Rattle.std.specs.Cmp.Lexicographic.{pointwise}
use Rattle.std.specs.Ordering.{on, eq_of_both}

-- shape, offsets and indices, unchecked
pub record Raw : Type 0 where
  pub major_dim : ℕ
  pub minor_dim : ℕ
  pub offsets : List ℕ
  pub indices : List ℕ

abbrev pub raw_of : ℕ → ℕ → List ℕ → List ℕ → Raw
raw_of major_dim minor_dim offsets indices =
    record { major_dim = major_dim; minor_dim = minor_dim; offsets = offsets; indices = indices }

-- the data of the pattern of this shape without entries
abbrev pub empty_raw : ℕ → ℕ → Raw
empty_raw major_dim minor_dim = raw_of major_dim minor_dim (replicate (major_dim + 1) 0) []

-- the offsets at which lane i begins and ends
abbrev pub start_of : Raw → ℕ → ℕ
start_of d i = slice_index d.offsets i

abbrev pub end_of : Raw → ℕ → ℕ
end_of d i = slice_index d.offsets (i + 1)

-- the indices of lane i
abbrev pub lane_of : Raw → ℕ → List ℕ
lane_of d i = slice_range d.indices (start_of d i) (end_of d i)

abbrev pub nnz_of : Raw → ℕ
nnz_of d = length d.indices

-- offset p is in lane i
pub record IsInLane (d : Raw) (i p : ℕ) : Type 0 where
  pub lane : i < d.major_dim
  pub from : start_of d i ≤ p
  pub to : p < end_of d i

-- (i, j) is an entry: lane i has the index j at some offset
pub record IsEntry (d : Raw) (i j : ℕ) : Type 0 where
  pub at : ℕ
  pub in_lane : IsInLane d i at
  pub index : slice_index d.indices at ≡ j

-- lane i lies within the indices, and its indices are strictly increasing and below the minor
-- dimension
pub record IsValidLane (d : Raw) (i : ℕ) : Type 0 where
  pub ordered : start_of d i ≤ end_of d i
  pub inside : end_of d i ≤ length d.indices
  pub bounded : (p : ℕ) → start_of d i ≤ p → p < end_of d i → slice_index d.indices p < d.minor_dim
  pub rising : (p : ℕ) → start_of d i < p → p < end_of d i
      → slice_index d.indices (p - 1) < slice_index d.indices p

pub record IsValid (d : Raw) : Type 0 where
  pub count : length d.offsets ≡ d.major_dim + 1
  pub first : slice_index d.offsets 0 ≡ 0
  pub last : slice_index d.offsets d.major_dim ≡ length d.indices
  pub lanes : (i : ℕ) → i < d.major_dim → IsValidLane d i

-- each index paired with the lane i
abbrev pub paired : ℕ → List ℕ → List (ℕ × ℕ)
paired i js = map (λ j. (i, j)) js

-- the entries (lane, index) of the n lanes from lane i on, in order
abbrev pub entries_from : List ℕ → List ℕ → ℕ → ℕ → List (ℕ × ℕ)
entries_from offsets indices i zero = []
entries_from offsets indices i (suc n) =
    paired i (slice_range indices (slice_index offsets i) (slice_index offsets (i + 1)))
    ++ entries_from offsets indices (i + 1) n

-- all entries (lane, index), lane by lane
abbrev pub entries_of : Raw → List (ℕ × ℕ)
entries_of d = entries_from d.offsets d.indices 0 d.major_dim

-- x comes before y: by lane, then by index
abbrev pub Precedes : ℕ × ℕ → ℕ × ℕ → Type 0
Precedes x y = (x.0 < y.0) ⊎ ((x.0 ≡ y.0) × (x.1 < y.1))

-- the result of `==`
abbrev pub raw_eq : Raw → Raw → Bool
raw_eq = eq_of_both (eq_of_both (on (λ d. d.minor_dim) ◌==◌) (on (λ d. d.offsets) (pointwise ◌==◌)))
    (on (λ d. d.indices) (pointwise ◌==◌))

-- the same shape and the same entries
pub record HasSameEntries (a b : Raw) : Type 0 where
  pub major_dim : a.major_dim ≡ b.major_dim
  pub minor_dim : a.minor_dim ≡ b.minor_dim
  pub entries : (i j : ℕ) → IsEntry a i j ↔ IsEntry b i j
