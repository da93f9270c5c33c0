-- The lanes of a compressed matrix: rows in CSR, columns in CSC.
use Rattle.std.specs.Prelude.{◌≡◌, ℕ, zero, suc, ◌+◌, ◌<◌, ◌≤◌, ◌==◌, Bool, List, [], ◌∷◌, All}
use Rattle.std.specs.Prelude.{length, Option, Some, None, position, slice_index_or, slice_range}
use Rattle.std.specs.Prelude.{refl}
use Rattle.std.specs.Cmp.Lexicographic.{pointwise}
use Rattle.std.specs.Coded.{Coded, code_by, coded×, coded_ℕ, coded_list}
use Rattle.std.specs.List.Sorted.{IsStrictlyIncreasing}
use Rattle.std.specs.Ordering.{on, eq_of_both}
use Rattle.sparse_pattern.specs.Raw.{start_of, end_of, lane_of}
use Rattle.sparse_pattern.specs.declared.entry.SparseEntry.{SparseEntry}
use Rattle.sparse_pattern.specs.declared.entry.SparseEntry.TheVariants.{NonZero, Zero}
use Rattle.sparse_compressed.specs.Compressed.{Compressed}

-- the number of possible indices, the stored indices, and their values
pub record Lane (T : Type 0) : Type 0 where
  pub minor_dim : ℕ
  pub indices : List ℕ
  pub values : List T

abbrev pub lane_code : {T : Type 0} → Coded T → Coded (Lane T)
lane_code {T} code = code_by (ℕ × (List ℕ × List T))
    (coded× coded_ℕ (coded× (coded_list coded_ℕ) (coded_list code)))
    (λ l. (l.minor_dim, (l.indices, l.values)))
    (λ p. record { minor_dim = p.0; indices = p.1.0; values = p.1.1 }) (λ _. refl)

module _ {T : Type 0} where
  abbrev pub lane_parts : ℕ → List ℕ → List T → Lane T
  lane_parts minor_dim indices values = record {
    minor_dim = minor_dim;
    indices = indices;
    values =
        values;
  }

  -- the indices are strictly increasing and within bounds, and there is one value for each
  pub record IsSoundLane (l : Lane T) : Type 0 where
    pub rising : IsStrictlyIncreasing l.indices
    pub bounded : All (λ j. j < l.minor_dim) l.indices
    pub count : length l.values ≡ length l.indices

  -- lane i of the matrix
  abbrev pub lane_at : Compressed T → ℕ → Lane T
  lane_at m i = lane_parts m.pattern.minor_dim (lane_of m.pattern i)
      (slice_range m.values (start_of m.pattern i) (end_of m.pattern i))

  -- the n lanes from lane i on
  abbrev pub lanes_from : Compressed T → ℕ → ℕ → List (Lane T)
  lanes_from m i zero = []
  lanes_from m i (suc n) = lane_at m i ∷ lanes_from m (i + 1) n

  -- all lanes in order, including those without entries
  abbrev pub lanes_of : Compressed T → List (Lane T)
  lanes_of m = lanes_from m 0 m.pattern.major_dim

  -- the entry at the index j, or Zero if j is not stored
  abbrev pub IsLaneEntryAt : Lane T → ℕ → SparseEntry T → Type 0
  IsLaneEntryAt l j (NonZero x) = (k : ℕ) × (position (λ i. i == j) l.indices ≡ Some k)
      × (x.now ≡ slice_index_or l.values k x.now)
  IsLaneEntryAt l j Zero = position (λ i. i == j) l.indices ≡ None

  -- the entry at an index within bounds, and None out of bounds
  abbrev pub IsLaneEntryOf : Lane T → ℕ → Option (SparseEntry T) → Type 0
  IsLaneEntryOf l j (Some entry) = (j < l.minor_dim) × IsLaneEntryAt l j entry
  IsLaneEntryOf l j None = l.minor_dim ≤ j

  -- the minor dimensions are equal, and so are the indices
  abbrev pub lane_indices_eq : Lane T → Lane T → Bool
  lane_indices_eq = eq_of_both (on (λ l. l.minor_dim) ◌==◌) (on (λ l. l.indices) (pointwise ◌==◌))

  -- the result of `==`
  abbrev pub lane_eq : (T → T → Bool) → Lane T → Lane T → Bool
  lane_eq E = eq_of_both lane_indices_eq (on (λ l. l.values) (pointwise E))
