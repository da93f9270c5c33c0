-- Each offset is in exactly one lane.
use Rattle.std.proofs.Common.{◌≡◌, ℕ, zero, suc, ◌+◌, ◌-◌, ◌<◌, ◌≤◌, inl, inr, length, slice_index}
use Rattle.std.proofs.Common.{subst, arith}
use Rattle.sparse_algebra.proofs.Cases.{lt_or_ge, three}
use Rattle.sparse_pattern.specs.Raw.{Raw, start_of, end_of, IsInLane, IsValid}

-- the offsets at which lanes begin never decrease, from 0 to the number of indices
pub record AreLanes (d : Raw) : Type 0 where
  pub first : slice_index d.offsets 0 ≡ 0
  pub last : slice_index d.offsets d.major_dim ≡ length d.indices
  pub ordered : (i : ℕ) → i < d.major_dim → start_of d i ≤ end_of d i

pub valid_lanes : (d : Raw) → IsValid d → AreLanes d
valid_lanes d valid = record {
  first = valid.first;
  last = valid.last;
  ordered = λ i lt. (valid.lanes i lt).ordered;
}

module _ (d : Raw) (are : AreLanes d) where
  starts_rise : (i n : ℕ) → i + n ≤ d.major_dim → start_of d i ≤ start_of d (i + n)
  starts_rise i zero le = let e : i ≡ i + zero =
      omega arith in subst (λ k. start_of d i ≤ start_of d k) e (omega arith)
  starts_rise i (suc n) le =
      let before = starts_rise i n (omega arith) in
      let step = are.ordered (i + n) (omega arith) in
      let e : i + n + 1 ≡ i + suc n = omega arith in
      subst (λ k. start_of d i ≤ start_of d k) e (omega (arith, before, step))

  pub starts_ordered : (i k : ℕ) → i ≤ k → k ≤ d.major_dim → start_of d i ≤ start_of d k
  starts_ordered i k lt le =
      let e : i + (k - i) ≡ k = omega arith in
      subst (λ l. start_of d i ≤ start_of d l) e (starts_rise i (k - i) (omega arith))

  pub end_inside : (i : ℕ) → i < d.major_dim → end_of d i ≤ length d.indices
  end_inside i lt = omega (
    arith,
    starts_ordered (i + 1) d.major_dim (omega arith) (omega arith),
    are.last,
  )

  pub one_lane : (i k p : ℕ) → IsInLane d i p → IsInLane d k p → i ≡ k
  one_lane i k p h g = elim (three i k) [
    | inl lt ↦ absurd (omega (
      arith,
      starts_ordered (i + 1) k (omega arith) (omega (arith, g.lane)),
      h.to,
      g.from,
    ))
    | inr rest ↦ elim rest [
      | inl gt ↦ absurd
          (omega (
            arith,
            starts_ordered (k + 1) i (omega arith) (omega (arith, h.lane)),
            g.to,
            h.from,
          ))
      | inr same ↦ same
    ]
  ]

  lane_before : (n q : ℕ) → n ≤ d.major_dim → q < start_of d n → (l : ℕ) × IsInLane d l q
  lane_before zero q le lt = absurd (omega (arith, are.first))
  lane_before (suc n) q le lt = elim (lt_or_ge q (start_of d n)) [
    | inl below ↦ lane_before n q (omega arith) below
    | inr from ↦
        let e : suc n ≡ n + 1 = omega arith in
        (n, record { lane = omega arith; from = from; to = rw e at lt })
  ]

  pub lane_of_offset : (q : ℕ) → q < length d.indices → (l : ℕ) × IsInLane d l q
  lane_of_offset q lt = lane_before d.major_dim q (omega arith) (omega (arith, are.last))
