-- The merging pass over all lanes, and the plain matrix of the result.
use Rattle.std.proofs.Common.{◌≡◌, ℕ, ◌+◌, ◌<◌, ◌≤◌, inl, inr, ◌↔◌, true, List, [], ◌∷◌, ◌++◌}
use Rattle.std.proofs.Common.{length, All, slice_index, refl, ap, sym, ◌∙◌, subst, arith}
use Rattle.sparse_algebra.proofs.Cases.{lt_add_one_cases, lt_or_ge}
use Rattle.sparse_algebra.specs.Algebra.{CommRing}
use Rattle.sparse_pattern.specs.Raw.{raw_of, IsValid, IsEntry}
use Rattle.sparse_algebra.specs.Plain.{Plain, IsProper}
use Rattle.sparse_algebra.proofs.PlainLemmas.{same_plain}
use Rattle.sparse_convert.specs.declared.borrowed.Triplets.{Triplets}
use Rattle.sparse_compressed.specs.Compressed.{Compressed, compressed_of, IsSound}
use Rattle.sparse_compressed.specs.PlainOfLanes.{plain_of_rows}
use Rattle.sparse_compressed.proofs.Arrays.{plain_of_rows-from_places}
use Rattle.sparse_convert.specs.InnerTripletLanes.{Represents, index_sum}
use Rattle.sparse_convert.specs.InnerTripletLanes.{triplets_of_lane}
use Rattle.sparse_convert.specs.InnerTripletLists.{list_of, plain_of_list}
use Rattle.sparse_convert.specs.InnerMerged.{AreMerged, AreLanesMerged, KeepsFirst}
use Rattle.sparse_convert.proofs.IndexSums.{has_index, index_sum-none, all_has}
use Rattle.sparse_convert.proofs.Merging.{merged_kept}
use Rattle.sparse_convert.proofs.Offsets.{offset_prefix, offset_end, offsets_more, offsets_ordered}
use Rattle.sparse_convert.proofs.Offsets.{offsets_within}
use Rattle.sparse_convert.proofs.Triplets.{lane_below, lane_has, lane_past, lane_sum}

module _ {R : CommRing} {T : Type 0} {f : T → R.Carrier} {z : T} {lane : ℕ → List (ℕ × T)} where
  pub no_lanes_merged : AreLanesMerged R f z lane 0 (0 ∷ []) [] []
  no_lanes_merged = record {
    offsets = record {
      count = omega arith;
      first = refl;
      last = refl;
      ordered = λ i lt. absurd (omega arith);
    };
    sizes = refl;
    merged = λ i lt. absurd (omega arith);
  }

  -- lanes before an offset are the same, and one more is merged after it
  pub merged_with : (n : ℕ) (starts : List ℕ) {is js : List ℕ} {vs ws : List T}
      → length starts ≡ n + 1
      → ((i : ℕ) → i < n → slice_index starts (i + 1) ≤ slice_index starts n)
      → ((i : ℕ) → i < n → AreMerged R f z (lane i) is vs (slice_index starts i)
      (slice_index starts (i + 1)))
      → KeepsFirst 0 (slice_index starts n) is js → KeepsFirst z (slice_index starts n) vs ws
      → AreMerged R f z (lane n) js ws (slice_index starts n) (length js)
      → (i : ℕ) → i < n + 1 → AreMerged R f z (lane i) js ws
      (slice_index (starts ++ length js ∷ []) i) (slice_index (starts ++ length js ∷ []) (i + 1))
  merged_with n starts {js = js} {ws = ws} count up lanes keeps_is keeps_vs merged i lt =
      let all = starts ++ length js ∷ [] in
      let prefix = offset_prefix n starts (length js) count in
      elim (lt_add_one_cases i n lt) [
        | inl before ↦ rw (prefix i (omega arith), prefix (i + 1) (omega arith))
            (merged_kept (lanes i before) (λ p to. keeps_is p (omega (arith, up i before)))
            (λ p to. keeps_vs p (omega (arith, up i before))))
        | inr here ↦ subst (λ k. AreMerged R f z (lane k) js ws (slice_index all k)
            (slice_index all (k + 1))) (sym here)
            (rw (prefix n (omega arith), offset_end n starts (length js) count) merged)
      ]

  -- one more lane
  pub lanes_merged_more : {n : ℕ} {starts is js : List ℕ} {vs ws : List T}
      → AreLanesMerged R f z lane n starts is vs → length is ≤ length js → length ws ≡ length js
      → KeepsFirst 0 (length is) is js → KeepsFirst z (length vs) vs ws
      → AreMerged R f z (lane n) js ws (length is) (length js)
      → AreLanesMerged R f z lane (n + 1) (starts ++ length js ∷ []) js ws
  lanes_merged_more {n} {starts} {js = js} {ws = ws} h up sizes keeps_is keeps_vs merged = record {
    offsets = offsets_more (length js) h.offsets up;
    sizes = sizes;
    merged = merged_with n starts h.offsets.count
        (λ i lt. offsets_ordered h.offsets (i + 1) n (omega arith) (omega arith)) h.merged
        (λ p to. keeps_is p (omega (arith, h.offsets.last)))
        (λ p to. keeps_vs p (omega (arith, h.offsets.last, h.sizes)))
        (subst (λ a. AreMerged R f z (lane n) js ws a (length js)) (sym h.offsets.last) merged);
  }

-- the plain matrix of the entries of lanes
abbrev pub plain_of_entries : (R : CommRing) {T : Type 0} → (T → R.Carrier) → (ℕ → List (ℕ × T)) → ℕ
    → ℕ → Plain R
plain_of_entries R f lane rows cols = record {
  rows = rows;
  cols = cols;
  has = λ i j. has_index j (lane i);
  value = λ i j. index_sum R f (lane i) j;
}

-- after the last lane
module _ {R : CommRing} {T : Type 0} {f : T → R.Carrier} {z : T} {lane : ℕ → List (ℕ × T)}
    {n minor : ℕ} {starts is : List ℕ} {vs : List T}
    (below : (i : ℕ) → All (λ e. e.0 < minor) (lane i)) (none : (i : ℕ) → n ≤ i → lane i ≡ [])
    (h : AreLanesMerged R f z lane n starts is vs) where
  pub merged_valid : IsValid (raw_of n minor starts is)
  merged_valid = record {
    count = h.offsets.count;
    first = h.offsets.first;
    last = h.offsets.last;
    lanes = λ i lt. record {
      ordered = h.offsets.ordered i lt;
      inside = offsets_within h.offsets (i + 1) (omega arith);
      bounded = λ p from to. all_has (λ j. j < minor) (lane i) (slice_index is p) (below i)
          ((h.merged i lt).named p from to);
      rising = (h.merged i lt).rising;
    };
  }

  lane_exists : (i j : ℕ) → has_index j (lane i) ≡ true → i < n
  lane_exists i j has = elim (lt_or_ge i n) [
    | inl lt ↦ lt
    | inr past ↦
        let nowhere : has_index {T = T} j [] ≡ true =
        subst (λ es. has_index j es ≡ true) (none i past) has in
        cc
  ]

  merged_entries : (i j : ℕ) → IsEntry (raw_of n minor starts is) i j ↔ (has_index j (lane i) ≡ true)
  merged_entries i j = (
    λ place. subst (λ k. has_index k (lane i) ≡ true) place.index
        ((h.merged i place.in_lane.lane).named place.at place.in_lane.from place.in_lane.to),
    λ has.
        let lt = lane_exists i j has in
        let p = (h.merged i lt).found j has in
        record { at = p.0; in_lane = record { lane = lt; from = p.1; to = p.2 }; index = p.3 },
  )

  proper_lanes : IsProper (plain_of_entries R f lane n minor)
  proper_lanes i j miss = index_sum-none R f (lane i) j miss

  -- the matrix of the merged arrays has the plain matrix of the entries
  pub merged_represents : {m : Compressed T} → IsSound m
      → m ≡ compressed_of (raw_of n minor starts is) vs
      → Represents R f (plain_of_entries R f lane n minor) m
  merged_represents sound built = record {
    plain = ap (plain_of_rows R f) built ∙ plain_of_rows-from_places R f z (compressed_of (raw_of n minor starts is) vs)
        (plain_of_entries R f lane n minor) (subst IsSound built sound) proper_lanes refl refl
        merged_entries (λ i j p at. (h.merged i at.0.lane).sums p at.0.from at.0.to
        ∙ ap (index_sum R f (lane i)) at.1);
    sound = sound;
  }

-- merged lanes of triplets are a sound matrix, which has the plain matrix of the triplets
module _ {R : CommRing} {T : Type 0} {f : T → R.Carrier} {z : T} {starts is : List ℕ}
    {vs : List T} (l : Triplets T)
    (h : AreLanesMerged R f z (triplets_of_lane (list_of l)) l.major_dim starts is vs) where
  pub triplets_valid : IsValid (raw_of l.major_dim l.minor_dim starts is)
  triplets_valid = merged_valid (lane_below l) (lane_past l) h

  pub triplets_represented : {m : Compressed T} → IsSound m
      → m ≡ compressed_of (raw_of l.major_dim l.minor_dim starts is) vs
      → Represents R f (plain_of_list l R f) m
  triplets_represented sound built =
      let ts = list_of l in
      record {
        plain = (merged_represents (lane_below l) (lane_past l) h sound built).plain
            ∙ same_plain (plain_of_entries R f (triplets_of_lane ts) l.major_dim l.minor_dim)
            (plain_of_list l R f) refl refl (λ i j. lane_has i j ts) (λ i j. lane_sum R f i j ts);
        sound = sound;
      }
