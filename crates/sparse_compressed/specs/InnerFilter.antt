-- The state of a filter after some pairs of one lane, and after some lanes.
use Rattle.std.specs.Prelude.{◌≡◌, ℕ, ◌+◌, ◌<◌, ◌≤◌, Bool, List, ◌++◌, length, slice_index}
use Rattle.std.specs.Prelude.{slice_range}
use Rattle.std.specs.List.{zip}
use Rattle.sparse_pattern.specs.Raw.{start_of, end_of, lane_of}
use Rattle.sparse_compressed.specs.Compressed.{Compressed}
use Rattle.sparse_compressed.specs.Filter.{IsKept}

-- ys and ws are xs and vs with the indices and the values of the kept pairs appended
pub record IsGrown {T : Type 0} (R : ℕ × T → Bool → Type 0) (pairs : List (ℕ × T)) (xs : List ℕ)
    (vs : List T) (ys : List ℕ) (ws : List T) : Type 0 where
  pub indices : List ℕ
  pub values : List T
  pub index_end : ys ≡ xs ++ indices
  pub value_end : ws ≡ vs ++ values
  pub count : length values ≡ length indices
  pub kept : IsKept R pairs (zip indices values)

module _ {T : Type 0} (R : ℕ × ℕ × T → Bool → Type 0) (m : Compressed T) where
  -- lane k of the arrays has the kept entries of lane k of the matrix
  pub record IsKeptLane (offsets indices : List ℕ) (values : List T) (k : ℕ) : Type 0 where
    pub ordered : slice_index offsets k ≤ slice_index offsets (k + 1)
    pub inside : slice_index offsets (k + 1) ≤ length indices
    pub kept : IsKept (λ p b. R (k, p.0, p.1) b)
        (zip (lane_of m.pattern k)
        (slice_range m.values (start_of m.pattern k) (end_of m.pattern k)))
        (zip (slice_range indices (slice_index offsets k) (slice_index offsets (k + 1)))
        (slice_range values (slice_index offsets k) (slice_index offsets (k + 1))))

  -- the arrays have the kept entries of the lanes below i
  pub record AreKeptLanes (offsets indices : List ℕ) (values : List T) (i : ℕ) : Type 0 where
    pub offset_count : length offsets ≡ i + 1
    pub first : slice_index offsets 0 ≡ 0
    pub last : slice_index offsets i ≡ length indices
    pub value_count : length values ≡ length indices
    pub lanes : (k : ℕ) → k < i → IsKeptLane offsets indices values k
