-- Which fault of arrays whose lanes need not be sorted is the first.
use Rattle.std.proofs.Common.{◌≡◌, ℕ, ◌+◌, ◌<◌, ◌≤◌, inl, inr, List, length, All, Any, arith}
use Rattle.sparse_algebra.proofs.Cases.{le_cases}
use Rattle.sparse_pattern.specs.Raw.{start_of, end_of, lane_of}
use Rattle.sparse_pattern.specs.FirstFault.{IsBefore}
use Rattle.sparse_compressed.specs.Compressed.{Compressed}
use Rattle.sparse_compressed.specs.InnerUnsortedFaults.{IsFirstAt}
use Rattle.sparse_compressed.specs.UnsortedFaults.{HasValidCounts, UnsortedRule}
use Rattle.sparse_compressed.specs.UnsortedFaults.{ValueCount, NoOffsets}
use Rattle.sparse_compressed.specs.UnsortedFaults.{OffsetCount, FirstLast, LaneFall}
use Rattle.sparse_compressed.specs.UnsortedFaults.{LaneEnd, LaneBounds}
use Rattle.sparse_compressed.specs.UnsortedFaults.{LaneRepeat, unsorted_rank}
use Rattle.sparse_compressed.specs.UnsortedFaults.{HasRepeat, HasUnsortedFault}
use Rattle.sparse_compressed.specs.UnsortedFaults.{HasNoFault}

-- lane k has no fault
pub record HasNoLaneFault {T : Type 0} (m : Compressed T) (k : ℕ) : Type 0 where
  pub ordered : start_of m.pattern k ≤ end_of m.pattern k
  pub inside : end_of m.pattern k ≤ length m.pattern.indices
  pub bounded : All (λ j. j < m.pattern.minor_dim) (lane_of m.pattern k)
  pub distinct : HasRepeat (lane_of m.pattern k) → ⊥

-- if all are below the bound, none is past it
not_past : (bound : ℕ) (xs : List ℕ) → All (λ j. j < bound) xs → Any (λ j. bound ≤ j) xs → ⊥
not_past bound xs below past = omega (arith, below past.0 past.1 past.2, past.3, past.4)

module _ {T : Type 0} (m : Compressed T) where
  -- arrays with valid counts and lanes without a fault have no fault
  pub no_fault : HasValidCounts m → ((k : ℕ) → k < m.pattern.major_dim → HasNoLaneFault m k)
      → HasNoFault m
  no_fault counts lanes ValueCount h = h counts.values
  no_fault counts lanes NoOffsets h = absurd (omega (arith, counts.offsets))
  no_fault counts lanes OffsetCount h = h counts.offsets
  no_fault counts lanes FirstLast h = elim h [ inl x ↦ x counts.first | inr x ↦ x counts.last ]
  no_fault counts lanes (LaneFall k) h = omega (arith, (lanes k h.0).ordered, h.1)
  no_fault counts lanes (LaneEnd k) h = omega (arith, (lanes k h.0).inside, h.1)
  no_fault counts lanes (LaneBounds k) h = not_past _ _ (lanes k h.0).bounded h.1
  no_fault counts lanes (LaneRepeat k) h = (lanes k h.0).distinct h.1

  module _ (counts : HasValidCounts m) (i : ℕ) (lane : i < m.pattern.major_dim)
      (fine : (k : ℕ) → k < i → HasNoLaneFault m k) where
    -- no fault comes before the n-th kind of fault of lane i, if the lanes before i have no fault
    -- and lane i has none of the kinds before n
    none_before : (n : ℕ) → n ≤ 3 → (0 < n → start_of m.pattern i ≤ end_of m.pattern i)
        → (1 < n → end_of m.pattern i ≤ length m.pattern.indices)
        → (2 < n → All (λ j. j < m.pattern.minor_dim) (lane_of m.pattern i)) → (t : UnsortedRule)
        → IsBefore (unsorted_rank t) (i + 4, n, 0) → HasUnsortedFault m t → ⊥
    none_before n top ordered inside bounded ValueCount b h = h counts.values
    none_before n top ordered inside bounded NoOffsets b h = absurd (omega (arith, counts.offsets))
    none_before n top ordered inside bounded OffsetCount b h = h counts.offsets
    none_before n top ordered inside bounded FirstLast b h =
        elim h [ inl x ↦ x counts.first | inr x ↦ x counts.last ]
    none_before n top ordered inside bounded (LaneFall k) b h = elim (le_cases k i (grind arith)) [
      | inl lt ↦ omega (arith, (fine k lt).ordered, h.1)
      | inr same ↦ let some : 0 < n = grind arith in omega
          (arith, rw (← same) at (ordered some), h.1)
    ]
    none_before n top ordered inside bounded (LaneEnd k) b h = elim (le_cases k i (grind arith)) [
      | inl lt ↦ omega (arith, (fine k lt).inside, h.1)
      | inr same ↦ let some : 1 < n = grind arith in omega
          (arith, rw (← same) at (inside some), h.1)
    ]
    none_before n top ordered inside bounded (LaneBounds k) b h =
        elim (le_cases k i (grind arith)) [
          | inl lt ↦ not_past _ _ (fine k lt).bounded h.1
          | inr same ↦ let some : 2 < n = grind arith in not_past _ _ (bounded some)
              (rw same at h.1)
        ]
    none_before n top ordered inside bounded (LaneRepeat k) b h = let lt : k < i =
        grind arith in (fine k lt).distinct h.1

    pub first_fall : end_of m.pattern i < start_of m.pattern i
        → IsFirstAt m (LaneFall i)
    first_fall bad = record {
      here = (lane, bad);
      none_before =
          none_before 0 (omega arith) (λ h. absurd (omega arith)) (λ h. absurd (omega arith))
          (λ h. absurd (omega arith));
    }

    pub first_end : start_of m.pattern i ≤ end_of m.pattern i
        → length m.pattern.indices < end_of m.pattern i → IsFirstAt m (LaneEnd i)
    first_end ordered bad = record {
      here = (lane, bad);
      none_before =
          none_before 1 (omega arith) (λ _. ordered) (λ h. absurd (omega arith))
          (λ h. absurd (omega arith));
    }

    pub first_bounds : start_of m.pattern i ≤ end_of m.pattern i
        → end_of m.pattern i ≤ length m.pattern.indices
        → Any (λ j. m.pattern.minor_dim ≤ j) (lane_of m.pattern i) → IsFirstAt m (LaneBounds i)
    first_bounds ordered inside bad = record {
      here = (lane, bad);
      none_before = none_before 2 (omega arith) (λ _. ordered) (λ _. inside)
          (λ h. absurd (omega arith));
    }

    pub first_repeat : start_of m.pattern i ≤ end_of m.pattern i
        → end_of m.pattern i ≤ length m.pattern.indices
        → All (λ j. j < m.pattern.minor_dim) (lane_of m.pattern i) → HasRepeat (lane_of m.pattern i)
        → IsFirstAt m (LaneRepeat i)
    first_repeat ordered inside below bad = record {
      here = (lane, bad);
      none_before = none_before 3 (omega arith) (λ _. ordered) (λ _. inside)
          (λ _. below);
    }

  -- the faults of the counts and of the first and last offset
  pub first_value_count : (length m.values ≡ length m.pattern.indices → ⊥)
      → IsFirstAt m ValueCount
  first_value_count bad = record {
    here = bad;
    none_before =
        λ s b h. absurd (before_value_count s b);
  }
    where
      before_value_count : (s : UnsortedRule) → IsBefore (unsorted_rank s) (0, 0, 0) → ⊥
      before_value_count s b = grind arith

  pub first_no_offsets : length m.values ≡ length m.pattern.indices → length m.pattern.offsets ≡ 0
      → IsFirstAt m NoOffsets
  first_no_offsets values bad = record { here = bad; none_before = before }
    where
      before : (s : UnsortedRule) → IsBefore (unsorted_rank s) (1, 0, 0) → HasUnsortedFault m s → ⊥
      before ValueCount b h = h values
      before NoOffsets b h = absurd (grind arith)
      before OffsetCount b h = absurd (grind arith)
      before FirstLast b h = absurd (grind arith)
      before (LaneFall k) b h = absurd (grind arith)
      before (LaneEnd k) b h = absurd (grind arith)
      before (LaneBounds k) b h = absurd (grind arith)
      before (LaneRepeat k) b h = absurd (grind arith)

  pub first_offset_count : length m.values ≡ length m.pattern.indices → 0 < length m.pattern.offsets
      → (length m.pattern.offsets ≡ m.pattern.major_dim + 1 → ⊥)
      → IsFirstAt m OffsetCount
  first_offset_count values some bad = record { here = bad; none_before = before }
    where
      before : (s : UnsortedRule) → IsBefore (unsorted_rank s) (2, 0, 0) → HasUnsortedFault m s → ⊥
      before ValueCount b h = h values
      before NoOffsets b h = absurd (omega arith)
      before OffsetCount b h = absurd (grind arith)
      before FirstLast b h = absurd (grind arith)
      before (LaneFall k) b h = absurd (grind arith)
      before (LaneEnd k) b h = absurd (grind arith)
      before (LaneBounds k) b h = absurd (grind arith)
      before (LaneRepeat k) b h = absurd (grind arith)

  pub first_first_last : length m.values ≡ length m.pattern.indices
      → length m.pattern.offsets ≡ m.pattern.major_dim + 1 → HasUnsortedFault m FirstLast
      → IsFirstAt m FirstLast
  first_first_last values count bad = record { here = bad; none_before = before }
    where
      before : (s : UnsortedRule) → IsBefore (unsorted_rank s) (3, 0, 0) → HasUnsortedFault m s → ⊥
      before ValueCount b h = h values
      before NoOffsets b h = absurd (omega arith)
      before OffsetCount b h = h count
      before FirstLast b h = absurd (grind arith)
      before (LaneFall k) b h = absurd (grind arith)
      before (LaneEnd k) b h = absurd (grind arith)
      before (LaneBounds k) b h = absurd (grind arith)
      before (LaneRepeat k) b h = absurd (grind arith)
