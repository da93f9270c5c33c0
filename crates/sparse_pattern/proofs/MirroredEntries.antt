-- A pattern that has the mirrored entry of each entry is its own transpose; the values move to the
-- mirrored entries.
use Rattle.std.proofs.Common.{◌≡◌, ℕ, ◌+◌, ◌<◌, ◌≤◌, ◌++◌, inl, inr, List, [], ◌∷◌, length, set}
use Rattle.std.proofs.Common.{length-append, get_or, slice_get, slice_index, arith}
use Rattle.std.proofs.Common.{sym, subst, ap, ◌∙◌}
use Rattle.std.specs.Prelude.{Some}
use Rattle.std.proofs.Math.Seq.{get_or-append_seam}
use Rattle.std.proofs.lemmas.Grind.{get_or-set_at}
use Rattle.std.proofs.lemmas.List.{get_or_append_left, get_or-set_other}
use Rattle.std.proofs.lemmas.Option.{slice_get-get_or}
use Rattle.sparse_algebra.proofs.Cases.{three}
use Rattle.sparse_pattern.specs.Raw.{Raw, start_of, IsInLane, IsEntry, IsValid}
use Rattle.sparse_pattern.specs.TransposedPattern.{IsTransposedPattern, AreTransposedValues}
use Rattle.sparse_pattern.specs.InnerTransposes.{AreMirrored, ArePastStarts, HasMirrored}
use Rattle.sparse_pattern.proofs.OffsetsInLanes.{one_lane, one_offset}

module _ (d : Raw) (valid : IsValid d) where
  inside : (i p : ℕ) → IsInLane d i p → p < length d.indices
  inside i p h = omega (arith, h.to, (valid.lanes i h.lane).inside)

  -- the cursors stay past the beginnings of their lanes if one is set to such an offset
  pub past_starts-set : (xs : List ℕ) (i n : ℕ) → ArePastStarts d xs → start_of d i ≤ n
      → i < length xs → ArePastStarts d (set xs i n)
  past_starts-set xs i n old past lt k below = elim (three k i) [
    | inl less ↦ subst (λ m. start_of d k ≤ m)
        (sym (get_or-set_other xs i k n 0 (λ e. omega (arith, less, e)))) (old k below)
    | inr rest ↦ elim rest [
      | inl more ↦ subst (λ m. start_of d k ≤ m)
          (sym (get_or-set_other xs i k n 0 (λ e. omega (arith, more, e)))) (old k below)
      | inr e ↦ subst (λ m. start_of d k ≤ m) (sym (get_or-set_at xs i k n 0 e lt))
          (subst (λ m. start_of d m ≤ n) (sym e) past)
    ]
  ]

  module _ {T : Type 0} (vs : List T) where
    -- pushing the value of the mirrored entry of the next entry extends the mirrored values by one
    pub mirrored-push : (ws : List T) (i p k : ℕ) (v : T) → AreMirrored d vs ws → IsInLane d i p
        → length ws ≡ p → IsInLane d (slice_index d.indices p) k → slice_index d.indices k ≡ i
        → slice_get vs k ≡ Some v → AreMirrored d vs (ws ++ v ∷ [])
    mirrored-push ws i p k v old here count in_lane index value j q at lt =
        let length_pushed : length (ws ++ v ∷ []) ≡ length ws + 1 = length-append ws (v ∷ []) in
        let base : HasMirrored d vs (ws ++ v ∷ []) (slice_index d.indices p) i p = record {
          at = k;
          in_lane = in_lane;
          index = index;
          value = slice_get-get_or (ws ++ v ∷ []) p v (omega (arith, length_pushed, count))
              ∙ ap Some (ap (λ n. get_or (ws ++ v ∷ []) n v) (sym count)
              ∙ get_or-append_seam ws v [] v) ∙ sym value;
        } in
        elim (three q (length ws)) [
          | inl before ↦ let m = old j q at before in record {
            at = m.at;
            in_lane = m.in_lane;
            index = m.index;
            value = slice_get-get_or (ws ++ v ∷ []) q v lt
                ∙ ap Some (get_or_append_left ws (v ∷ []) v q before)
                ∙ sym (slice_get-get_or ws q v before) ∙ m.value;
          }
          | inr rest ↦ elim rest [
            | inl past ↦ absurd (omega (arith, past, lt, length_pushed))
            | inr e ↦
                let same : q ≡ p = e ∙ count in
                let lane : i ≡ j = one_lane d valid i j p here (subst (IsInLane d j) same at) in
                let longer = ws ++ v ∷ [] in
                subst (λ x. HasMirrored d vs longer (slice_index d.indices x) j x) (sym same)
                (subst (λ y. HasMirrored d vs longer (slice_index d.indices p) y p) lane base)
          ]
        ]

    module _ (ws : List T) (all : AreMirrored d vs ws) (count : length ws ≡ length d.indices) where
      swapped : (i j : ℕ) → IsEntry d i j → IsEntry d j i
      swapped i j place =
          let m = all i place.at place.in_lane
          (omega (arith, count, inside i place.at place.in_lane)) in
          record {
            at = m.at;
            in_lane = subst (λ x. IsInLane d x m.at) place.index m.in_lane;
            index = m.index;
          }

      pub own_transpose : d.minor_dim ≡ d.major_dim → IsTransposedPattern d d
      own_transpose square = record {
        major_dim = sym square;
        minor_dim = square;
        entries = λ i j. (swapped j i, swapped i j);
      }

      pub moved_values : AreTransposedValues d d vs ws
      moved_values i j p q in_i index_p in_j index_q =
          let m = all j q in_j (omega (arith, count, inside j q in_j)) in
          let here = subst (λ x. IsInLane d x m.at) index_q m.in_lane in
          m.value
          ∙ ap (slice_get vs) (one_offset d valid i m.at p here in_i (m.index ∙ sym index_p))
