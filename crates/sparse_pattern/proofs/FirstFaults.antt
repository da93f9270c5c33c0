-- The first fault of a pattern, found by checking its rules in order.
use Rattle.std.proofs.Common.{◌≡◌, ℕ, ◌+◌, ◌-◌, ◌<◌, ◌≤◌, ◌⊎◌, inl, inr, length, slice_index, refl}
use Rattle.std.proofs.Common.{arith}
use Rattle.sparse_algebra.proofs.Cases.{le_cases}
use Rattle.sparse_pattern.specs.Raw.{Raw, start_of, end_of, IsInLane, IsValidLane}
use Rattle.sparse_pattern.specs.FirstFault.{IsBefore}
use Rattle.sparse_pattern.specs.PatternFaults.{Rule, OffsetCount, FirstLast, LaneEnd, Bound, Fall}
use Rattle.sparse_pattern.specs.PatternFaults.{Repeat, rank_of, HasFault, IsFirstFault}
use Rattle.sparse_pattern.specs.InnerPatternFaults.{IsRisingBelow, IsFirstAmong}
use Rattle.sparse_pattern.specs.declared.pattern.faults.SparsityPatternFormatError.{SparsityPatternFormatError}
use Rattle.sparse_pattern.specs.declared.pattern.faults.SparsityPatternFormatError.TheVariants.{NonmonotonicOffsets}

-- the number of offsets, the first and the last offset, and the lanes below i satisfy their rules
pub record LanesFine (d : Raw) (i : ℕ) : Type 0 where
  pub count : length d.offsets ≡ d.major_dim + 1
  pub first : slice_index d.offsets 0 ≡ 0
  pub last : slice_index d.offsets d.major_dim ≡ length d.indices
  pub lanes : (k : ℕ) → k < i → IsValidLane d k

abbrev NoneBefore : Raw → Rule → Type 0
NoneBefore d s = (t : Rule) → IsBefore (rank_of t) (rank_of s) → HasFault d t → ⊥

module _ (d : Raw) where
  -- a lane that ends after it begins and within the indices satisfies the rule for its end
  end_fine : (k : ℕ) → start_of d k ≤ end_of d k → end_of d k ≤ length d.indices
      → HasFault d (LaneEnd k) → ⊥
  end_fine k ordered inside h = elim h.1 [ inl x ↦ omega arith | inr x ↦ omega arith ]

  -- no rule before that for the end of lane i is violated
  none_before_lane : (i : ℕ) → LanesFine d i → NoneBefore d (LaneEnd i)
  none_before_lane i fine OffsetCount b h = h fine.count
  none_before_lane i fine FirstLast b h = elim h [ inl x ↦ x fine.first | inr x ↦ x fine.last ]
  none_before_lane i fine (LaneEnd k) b h = let v = fine.lanes k (grind arith) in end_fine k
      v.ordered v.inside h
  none_before_lane i fine (Bound k q) b h =
      omega (arith, (fine.lanes k (grind arith)).bounded q h.0.from h.0.to, h.1)
  none_before_lane i fine (Fall k q) b h =
      omega (arith, (fine.lanes k (grind arith)).rising q h.1 h.0.to, h.2)
  none_before_lane i fine (Repeat k q) b h =
      omega (arith, (fine.lanes k (grind arith)).rising q h.1 h.0.to, h.2)

  pub first_at_end : (i : ℕ) → LanesFine d i → i < d.major_dim
      → (end_of d i < start_of d i) ⊎ (length d.indices < end_of d i)
      → IsFirstFault d NonmonotonicOffsets
  first_at_end i fine lane bad = record {
    rule = LaneEnd i;
    first =
        record { here = (lane, bad); none_before = none_before_lane i fine };
    is = refl;
  }

  -- no rule before the n-th rule for offset p of lane i is violated, if the rules for that offset before
  -- it are satisfied
  module _ (i p : ℕ) (fine : LanesFine d i) (ordered : start_of d i ≤ end_of d i)
      (inside : end_of d i ≤ length d.indices)
      (so_far : IsRisingBelow d.minor_dim d.indices (start_of d i) p) where
    none_before_offset : (n : ℕ) → n ≤ 2 → (0 < n → slice_index d.indices p < d.minor_dim)
        → (1 < n → slice_index d.indices (p - 1) ≤ slice_index d.indices p) → (t : Rule)
        → IsBefore (rank_of t) (i + 2, p + 1, n) → HasFault d t → ⊥
    none_before_offset n top bound order OffsetCount b h = h fine.count
    none_before_offset n top bound order FirstLast b h =
        elim h [ inl x ↦ x fine.first | inr x ↦ x fine.last ]
    none_before_offset n top bound order (LaneEnd k) b h = elim (le_cases k i (grind arith)) [
      | inl lt ↦ let v = fine.lanes k lt in end_fine k v.ordered v.inside h
      | inr same ↦ end_fine k (rw same ordered) (rw same inside) h
    ]
    none_before_offset n top bound order (Bound k q) b h = elim (le_cases k i (grind arith)) [
      | inl lt ↦ omega (arith, (fine.lanes k lt).bounded q h.0.from h.0.to, h.1)
      | inr same ↦ elim (le_cases q p (grind arith)) [
        | inl before ↦ omega (arith, so_far.bounded q (rw (← same) h.0.from) before, h.1)
        | inr here ↦ let some : 0 < n = grind arith in omega
            (arith, rw (← here) at (bound some), h.1)
      ]
    ]
    none_before_offset n top bound order (Fall k q) b h = elim (le_cases k i (grind arith)) [
      | inl lt ↦ omega (arith, (fine.lanes k lt).rising q h.1 h.0.to, h.2)
      | inr same ↦ elim (le_cases q p (grind arith)) [
        | inl before ↦ omega (arith, so_far.rising q (rw (← same) h.1) before, h.2)
        | inr here ↦ let two : 1 < n = grind arith in omega (arith, rw (← here) at (order two), h.2)
      ]
    ]
    none_before_offset n top bound order (Repeat k q) b h = elim (le_cases k i (grind arith)) [
      | inl lt ↦ omega (arith, (fine.lanes k lt).rising q h.1 h.0.to, h.2)
      | inr same ↦ let before : q < p = grind arith in omega
          (arith, so_far.rising q (rw (← same) h.1) before, h.2)
    ]

  -- the first fault among the indices of lane i is the first fault of the data
  pub first_among : (i : ℕ) → LanesFine d i → i < d.major_dim → start_of d i ≤ end_of d i
      → end_of d i ≤ length d.indices → (e : SparsityPatternFormatError)
      → IsFirstAmong d.minor_dim d.indices (start_of d i) (end_of d i) e → IsFirstFault d e
  first_among i fine lane ordered inside e among =
      let p = among.at in
      let in_lane : IsInLane d i p = record { lane = lane; from = among.from; to = among.to } in
      let none = none_before_offset i p fine ordered inside among.fine_before in
      elim among.here [
        | inl outside ↦ record {
          rule = Bound i p;
          first =
              record {
                here = (in_lane, outside.1);
                none_before =
                    none 0 (omega arith) (λ h. absurd (omega arith)) (λ h. absurd (omega arith));
              };
          is =
              outside.0;
        }
        | inr order ↦ elim order.2 [
          | inl falls ↦ record {
            rule = Fall i p;
            first =
                record {
                  here = (in_lane, order.1, falls.1);
                  none_before =
                      none 1 (omega arith) (λ _. order.0) (λ h. absurd (omega arith));
                };
            is = falls.0;
          }
          | inr repeats ↦ record {
            rule = Repeat i p;
            first =
                record {
                  here = (in_lane, order.1, repeats.1);
                  none_before =
                      none 2 (omega arith) (λ _. order.0) (λ _. omega arith);
                };
            is = repeats.0;
          }
        ]
      ]
