-- Offsets of a valid pattern: each is in exactly one lane, and an entry has only one.
use Rattle.std.proofs.Common.{◌≡◌, ℕ, ◌<◌, ◌≤◌, inl, inr, length, get_or, slice_index, All, sym}
use Rattle.std.proofs.Common.{subst, arith}
use Rattle.std.proofs.lemmas.Grind.{get_or_default_zero}
use Rattle.sparse_algebra.proofs.Cases.{three}
use Rattle.sparse_pattern.specs.Raw.{Raw, start_of, IsInLane, IsValid}
use Rattle.sparse_pattern.proofs.LaneOffsets as lanes
use Rattle.sparse_pattern.proofs.LaneOffsets.{valid_lanes}
use Rattle.sparse_pattern.proofs.PatternLanes.{rises_at}

module _ (d : Raw) (valid : IsValid d) where
  pub starts_ordered : (i k : ℕ) → i ≤ k → k ≤ d.major_dim → start_of d i ≤ start_of d k
  starts_ordered = lanes.starts_ordered d (valid_lanes d valid)

  pub one_lane : (i k p : ℕ) → IsInLane d i p → IsInLane d k p → i ≡ k
  one_lane = lanes.one_lane d (valid_lanes d valid)

  pub lane_of_offset : (q : ℕ) → q < length d.indices → (l : ℕ) × IsInLane d l q
  lane_of_offset = lanes.lane_of_offset d (valid_lanes d valid)

  pub one_offset : (i p q : ℕ) → IsInLane d i p → IsInLane d i q
      → slice_index d.indices p ≡ slice_index d.indices q → p ≡ q
  one_offset i p q h g same =
      let lane = valid.lanes i h.lane in
      elim (three p q) [
        | inl lt ↦ absurd (omega (arith, rises_at d i lane p q h.from lt g.to))
        | inr rest ↦ elim rest [
          | inl gt ↦ absurd (omega (arith, rises_at d i lane q p g.from gt h.to))
          | inr e ↦ e
        ]
      ]

  index_below : (p : ℕ) → p < length d.indices → slice_index d.indices p < d.minor_dim
  index_below p lt = let l = lane_of_offset p lt in (valid.lanes l.0 l.1.lane).bounded p l.1.from
      l.1.to

  pub indices_below : All (λ j. j < d.minor_dim) d.indices
  indices_below p j lt =
      let read : get_or d.indices p 0 ≡ get_or d.indices p j =
      sym (get_or_default_zero d.indices p j lt) in
      subst (λ k. k < d.minor_dim) read (index_below p lt)
