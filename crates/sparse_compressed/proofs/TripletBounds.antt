-- A sound matrix has as many triplets as values, and each triplet is an entry within the shape.
use Rattle.std.proofs.Common.{◌≡◌, ℕ, zero, suc, ◌<◌, List, [], ◌∷◌, length, get_or, slice_index}
use Rattle.std.proofs.Common.{All, ap, sym, ◌∙◌, refl, arith}
use Rattle.sparse_pattern.specs.Raw.{entries_of, IsEntry}
use Rattle.sparse_pattern.proofs.LaneOrder.{length-entries}
use Rattle.sparse_compressed.specs.Compressed.{Compressed, IsSound, zip_values, lane_triplets}
use Rattle.sparse_pattern.proofs.OffsetsInLanes.{lane_of_offset}
use Rattle.sparse_compressed.proofs.Arrays.{entry_at}

module _ {T : Type 0} where
  length-zip : (ps : List (ℕ × ℕ)) (vs : List T) → length ps ≡ length vs
      → length (zip_values ps vs) ≡ length vs
  length-zip [] [] e = refl
  length-zip [] (v ∷ vs) e = absurd (omega arith)
  length-zip (p ∷ ps) [] e = absurd (omega arith)
  length-zip (p ∷ ps) (v ∷ vs) e = ap suc (length-zip ps vs (omega arith))

  pub zip-pair : (ps : List (ℕ × ℕ)) (vs : List T) (k : ℕ) (t : ℕ × ℕ × T) → length ps ≡ length vs
      → k < length vs
      → ((get_or (zip_values ps vs) k t).0 ≡ (get_or ps k (0, 0)).0)
      × ((get_or (zip_values ps vs) k t).1 ≡ (get_or ps k (0, 0)).1)
  zip-pair [] [] k t e lt = absurd (omega arith)
  zip-pair [] (v ∷ vs) k t e lt = absurd (omega arith)
  zip-pair (p ∷ ps) [] k t e lt = absurd (omega arith)
  zip-pair (p ∷ ps) (v ∷ vs) zero t e lt = (refl, refl)
  zip-pair (p ∷ ps) (v ∷ vs) (suc k) t e lt = zip-pair ps vs k t (omega arith) (omega arith)

  module _ (m : Compressed T) (sound : IsSound m) where
    pub length-lane_triplets : length (lane_triplets m) ≡ length m.values
    length-lane_triplets = length-zip (entries_of m.pattern) m.values
        (length-entries m.pattern sound.valid ∙ sym sound.count)

    pub lane_triplets-inside : All (λ t. (t.0 < m.pattern.major_dim) × (t.1 < m.pattern.minor_dim))
        (lane_triplets m)
    lane_triplets-inside k t lt =
        let within : k < length m.values = omega (arith, length-lane_triplets) in
        let at = lane_of_offset m.pattern sound.valid k (omega (arith, sound.count)) in
        let entry = entry_at m.pattern sound.valid at.0 k at.1 in
        let pair = zip-pair (entries_of m.pattern) m.values k t
        (length-entries m.pattern sound.valid ∙ sym sound.count) within in
        let lane = sound.valid.lanes at.0 at.1.lane in (
          rw (pair.0, ap (λ p. p.0) entry) at.1.lane,
          rw (pair.1, ap (λ p. p.1) entry) (lane.bounded k at.1.from at.1.to),
        )

    -- each triplet is at an entry of the pattern
    pub lane_triplets-places : All (λ t. IsEntry m.pattern t.0 t.1) (lane_triplets m)
    lane_triplets-places k t lt =
        let within : k < length m.values = omega (arith, length-lane_triplets) in
        let at = lane_of_offset m.pattern sound.valid k (omega (arith, sound.count)) in
        let entry = entry_at m.pattern sound.valid at.0 k at.1 in
        let pair = zip-pair (entries_of m.pattern) m.values k t
        (length-entries m.pattern sound.valid ∙ sym sound.count) within in
        let here : IsEntry m.pattern at.0 (slice_index m.pattern.indices k) =
        record { at = k; in_lane = at.1; index = refl } in
        rw (pair.0, pair.1, ap (λ p. p.0) entry, ap (λ p. p.1) entry) here
