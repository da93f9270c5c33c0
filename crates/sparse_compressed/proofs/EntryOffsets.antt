-- The pair at an offset, in the list of all entries of a pattern.
use Rattle.std.proofs.Common.{◌≡◌, ℕ, zero, suc, ◌+◌, ◌-◌, ◌<◌, ◌≤◌, inl, inr, ◌++◌, length, get_or}
use Rattle.std.proofs.Common.{slice_index, ap, sym, subst, ◌∙◌, refl, arith}
use Rattle.std.proofs.lemmas.List.{length-map, get_or_append_left, get_or-append_right, get_or-map}
use Rattle.sparse_algebra.proofs.Cases.{three}
use Rattle.sparse_pattern.specs.Raw.{Raw, start_of, end_of, lane_of, IsInLane, IsValid}
use Rattle.sparse_pattern.specs.Raw.{entries_from, entries_of, paired}
use Rattle.sparse_pattern.proofs.PatternLanes.{length-lane, get_or-lane}
use Rattle.sparse_pattern.proofs.OffsetsInLanes.{starts_ordered, lane_of_offset}
use Rattle.sparse_compressed.specs.Compressed.{IsOffset}

module _ (d : Raw) (valid : IsValid d) where
  pub offset_within : (i j p : ℕ) → IsOffset d i j p → p < length d.indices
  offset_within i j p h = omega (arith, (valid.lanes i h.0.lane).inside, h.0.to)

  -- the pair at the offset p of lane i, in the list of the entries from lane k on
  entry_from : (k n i p : ℕ) → k + n ≡ d.major_dim → k ≤ i → IsInLane d i p
      → get_or (entries_from d.offsets d.indices k n) (p - start_of d k) (0, 0)
      ≡ (i, slice_index d.indices p)
  entry_from k zero i p e le h = absurd (omega (arith, h.lane))
  entry_from k (suc n) i p e le h =
      let lane = valid.lanes k (omega arith) in
      let prefix = paired k (lane_of d k) in
      let rest = entries_from d.offsets d.indices (k + 1) n in
      let low = starts_ordered d valid k i le (omega (arith, h.lane)) in
      let long : length prefix ≡ end_of d k - start_of d k =
      length-map (lane_of d k) (λ j. (k, j)) ∙ length-lane d k lane in
      elim (three k i) [
        | inl lt ↦
            let after = starts_ordered d valid (k + 1) i (omega arith) (omega (arith, h.lane)) in
            let ih = entry_from (k + 1) n i p (omega arith) (omega arith) h in
            let off : length prefix ≤ p - start_of d k =
            omega (arith, long, h.from, after, lane.ordered) in
            let less : p - start_of d k - length prefix ≡ p - start_of d (k + 1) =
            omega (arith, long, h.from, after, lane.ordered) in
            let right : get_or (prefix ++ rest) (p - start_of d k) (0, 0) ≡ get_or rest
            (p - start_of d k - length prefix) (0, 0) =
            get_or-append_right prefix rest (length prefix) (p - start_of d k) (0, 0) refl off in
            right ∙ ap (λ q. get_or rest q (0, 0)) less ∙ ih
        | inr more ↦ elim more [
          | inl gt ↦ absurd (omega arith)
          | inr same ↦
              let from' : start_of d k ≤ p = omega (arith, low, h.from) in
              let to' : p < end_of d k = subst (λ l. p < end_of d l) (sym same) h.to in
              let inside : p - start_of d k < length prefix = omega (arith, long, from', to') in
              let inside' : p - start_of d k < length (lane_of d k) =
              omega (arith, length-lane d k lane, from', to') in
              let left : get_or (prefix ++ rest) (p - start_of d k) (0, 0) ≡ get_or prefix
              (p - start_of d k) (0, 0) =
              get_or_append_left prefix rest (0, 0) (p - start_of d k) inside in
              let mapped : get_or prefix (p - start_of d k) (0, 0)
              ≡ (k, get_or (lane_of d k) (p - start_of d k) 0) =
              get_or-map (λ j. (k, j)) (lane_of d k) (p - start_of d k) 0 (0, 0) inside' in
              let back : start_of d k + (p - start_of d k) ≡ p = omega (arith, from') in
              left ∙ mapped ∙ ap (λ x. (k, x)) (get_or-lane d k lane (p - start_of d k) inside'
              ∙ ap (λ q. get_or d.indices q 0) back) ∙ ap (λ l. (l, slice_index d.indices p)) same
        ]
      ]

  pub entry_at : (i p : ℕ) → IsInLane d i p
      → get_or (entries_of d) p (0, 0) ≡ (i, slice_index d.indices p)
  entry_at i p h =
      let e : p - start_of d 0 ≡ p = omega (arith, valid.first) in
      ap (λ q. get_or (entries_of d) q (0, 0)) (sym e) ∙ entry_from 0 d.major_dim i p (omega arith)
      (omega arith) h

  pub offset_of_entry : (i j q : ℕ) → q < length d.indices
      → get_or (entries_of d) q (0, 0) ≡ (i, j) → IsOffset d i j q
  offset_of_entry i j q lt is =
      let l = lane_of_offset d valid q lt in
      let pair = sym (entry_at l.0 q l.1) ∙ is in
      let row : l.0 ≡ i = ap (λ x. x.0) pair in
      (subst (λ k. IsInLane d k q) row l.1, ap (λ x. x.1) pair)
