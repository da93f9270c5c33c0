-- The list of the entries of a valid pattern is strictly increasing, by lane and then by index.
use Rattle.std.proofs.Common.{◌≡◌, ℕ, zero, suc, ◌+◌, ◌-◌, ◌<◌, ◌≤◌, inl, inr, List}
use Rattle.std.proofs.Common.{length, get_or, refl, arith, length-append}
use Rattle.std.specs.Prelude.{AllPairs}
use Rattle.std.proofs.lemmas.List.{get_or-map, get_or_append_left, get_or-append_right}
use Rattle.sparse_algebra.proofs.Cases.{lt_or_ge}
use Rattle.sparse_pattern.specs.Raw.{Raw, lane_of, IsValid, Precedes, entries_from, entries_of}
use Rattle.sparse_pattern.specs.Raw.{paired}
use Rattle.sparse_pattern.proofs.LaneOrder.{length-paired}
use Rattle.sparse_pattern.proofs.PatternLanes.{lane_rises}

module _ (d : Raw) where
  abbrev pairs_of : ℕ → List (ℕ × ℕ)
  pairs_of i = paired i (lane_of d i)

  abbrev rest_after : ℕ → ℕ → List (ℕ × ℕ)
  rest_after i n = entries_from d.offsets d.indices (i + 1) n

  in_lane : (i k : ℕ) → k < length (pairs_of i) → k < length (lane_of d i)
  in_lane i k lt = omega (arith, length-paired i (lane_of d i))

  pair_at : (i k : ℕ) (e : ℕ × ℕ) → k < length (pairs_of i)
      → get_or (pairs_of i) k e ≡ (i, get_or (lane_of d i) k 0)
  pair_at i k e lt = get_or-map {Y = ℕ × ℕ} (λ j. (i, j)) (lane_of d i) k 0 e (in_lane i k lt)

  -- the entries of the lanes from i on have lanes of at least i
  lanes_from : (i n k : ℕ) (e : ℕ × ℕ) → k < length (entries_from d.offsets d.indices i n)
      → i ≤ (get_or (entries_from d.offsets d.indices i n) k e).0
  lanes_from i zero k e lt = absurd (omega arith)
  lanes_from i (suc n) k e lt = elim (lt_or_ge k (length (pairs_of i))) [
    | inl front ↦ rw (
      get_or_append_left (pairs_of i) (rest_after i n) e k front,
      pair_at i k e front,
    ) (omega arith)
    | inr behind ↦
        let later = lanes_from (i + 1) n (k - length (pairs_of i)) e
        (omega (arith, length-append (pairs_of i) (rest_after i n))) in
        rw (get_or-append_right (pairs_of i) (rest_after i n) (length (pairs_of i)) k e refl behind)
        (omega arith)
  ]

  module _ (valid : IsValid d) where
    rising_from : (i n : ℕ) → i + n ≡ d.major_dim
        → AllPairs Precedes (entries_from d.offsets d.indices i n)
    rising_from i zero whole p q e lt within = absurd (omega arith)
    rising_from i (suc n) whole p q e lt within = elim (lt_or_ge q (length (pairs_of i))) [
      | inl front ↦
          rw (
            get_or_append_left (pairs_of i) (rest_after i n) e p (omega arith),
            get_or_append_left (pairs_of i) (rest_after i n) e q front,
            pair_at i p e (omega arith),
            pair_at i q e front,
          )
          (inr (refl, lane_rises d i (valid.lanes i (omega arith)) p q lt (in_lane i q front)))
      | inr behind ↦
          let inside : q - length (pairs_of i) < length (rest_after i n) =
          omega (arith, length-append (pairs_of i) (rest_after i n)) in
          elim (lt_or_ge p (length (pairs_of i))) [
            | inl front ↦
                let later = lanes_from (i + 1) n (q - length (pairs_of i)) e inside in
                rw (
                  get_or_append_left (pairs_of i) (rest_after i n) e p front,
                  get_or-append_right (pairs_of i) (rest_after i n) (length (pairs_of i)) q e refl
                      behind,
                  pair_at i p e front,
                )
                (inl (omega arith))
            | inr both ↦
                rw (
                  get_or-append_right (pairs_of i) (rest_after i n) (length (pairs_of i)) p e refl
                      both,
                  get_or-append_right (pairs_of i) (rest_after i n) (length (pairs_of i)) q e
                      refl behind,
                )
                (rising_from (i + 1) n (omega arith) (p - length (pairs_of i))
                (q - length (pairs_of i)) e (omega arith) inside)
          ]
    ]

    pub entries_rise : AllPairs Precedes (entries_of d)
    entries_rise = rising_from 0 d.major_dim (omega arith)
