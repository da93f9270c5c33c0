-- A sorted list is compressed in one pass: each triplet is appended to the open lane, or added to
-- its last entry.
use Rattle.std.proofs.Common.{◌≡◌, ◌≢◌, ℕ, zero, suc, ◌+◌, ◌-◌, ◌<◌, ◌≤◌, inl, inr}
use Rattle.std.proofs.Common.{List, [], ◌∷◌, ◌++◌, length, take, replicate}
use Rattle.std.proofs.Common.{slice_index, append_assoc, append-nil, take_all, refl, sym, ◌∙◌}
use Rattle.std.proofs.Common.{subst, arith}
use Rattle.sparse_algebra.proofs.Cases.{lt_or_ge}
use Rattle.sparse_algebra.specs.Algebra.{CommRing}
use Rattle.sparse_convert.specs.declared.borrowed.Triplets.{Triplets}
use Rattle.sparse_convert.specs.InnerTripletLanes.{triplets_of_lane}
use Rattle.sparse_convert.specs.InnerTripletLists.{list_of}
use Rattle.sparse_convert.specs.InnerMerged.{AreMerged, AreLanesMerged, KeepsFirst}
use Rattle.sparse_convert.specs.InnerInOrder.{AreInOrder}
use Rattle.sparse_convert.proofs.Merging.{empty_merged}
use Rattle.sparse_convert.proofs.MergedLanes.{no_lanes_merged, lanes_merged_more, merged_with}
use Rattle.sparse_convert.proofs.Offsets.{offset_prefix, offset_end, offsets_less, offsets_more}
use Rattle.sparse_convert.proofs.Offsets.{offsets_ordered}
use Rattle.sparse_convert.proofs.PlacedByKey.{pushed_here, pushed_other}
use Rattle.sparse_convert.proofs.Triplets.{lane_past, triplet_count}

-- a triplet that is appended to the list is the last of its lane, and the other lanes are the same
module _ {T : Type 0} (ts : List (ℕ × ℕ × T)) (t : ℕ × ℕ × T) where
  lane_pushed : triplets_of_lane (ts ++ t ∷ []) t.0 ≡ triplets_of_lane ts t.0 ++ (t.1, t.2) ∷ []
  lane_pushed = pushed_here (λ t. t.0) (λ t. (t.1, t.2)) t.0 ts t refl

  lane_other : (i : ℕ) → t.0 ≢ i → triplets_of_lane (ts ++ t ∷ []) i ≡ triplets_of_lane ts i
  lane_other i ne = pushed_other (λ t. t.0) (λ t. (t.1, t.2)) i ts t ne

module _ {R : CommRing} {T : Type 0} {f : T → R.Carrier} {z : T} where
  -- before the first triplet
  pub nothing_read : AreInOrder R f z 0 [] (0 ∷ []) [] []
  nothing_read = record {
    lanes = lanes_merged_more no_lanes_merged (omega arith) refl (λ p lt. refl) (λ p lt. refl)
        empty_merged;
    none = λ i lt. refl;
  }

  module _ {ts : List (ℕ × ℕ × T)} {is : List ℕ} {vs : List T} where
    -- the open lane is ended, and the next one is open
    lane_ended : {n : ℕ} {starts : List ℕ} → AreInOrder R f z n ts starts is vs
        → AreInOrder R f z (n + 1) ts (starts ++ length is ∷ []) is vs
    lane_ended {n} h = record {
      lanes = lanes_merged_more h.lanes (omega arith) h.lanes.sizes (λ p lt. refl) (λ p lt. refl)
          (rw (h.none (n + 1) (omega arith)) empty_merged);
      none = λ i lt. h.none i (omega arith);
    }

    -- m lanes are ended, and the next one is open
    more_ended : (m : ℕ) {n : ℕ} {starts : List ℕ} → AreInOrder R f z n ts starts is vs
        → AreInOrder R f z (n + m) ts (starts ++ replicate m (length is)) is vs
    more_ended zero {n} {starts} h =
        let e : n ≡ n + zero = omega arith in
        subst (λ k. AreInOrder R f z k ts (starts ++ []) is vs) e
        (subst (λ l. AreInOrder R f z n ts l is vs) (sym (append-nil starts)) h)
    more_ended (suc m) {n} {starts} h =
        let e : n + 1 + m ≡ n + suc m = omega arith in
        let ends = replicate m (length is) in
        subst (λ k. AreInOrder R f z k ts (starts ++ length is ∷ ends) is vs) e
        (subst (λ l. AreInOrder R f z (n + 1 + m) ts l is vs)
        (append_assoc starts (length is ∷ []) ends) (more_ended m (lane_ended h)))

    -- the lanes before r are ended, and lane r is open
    pub lanes_ended : {n : ℕ} {starts : List ℕ} (r : ℕ) → n ≤ r → AreInOrder R f z n ts starts is vs
        → AreInOrder R f z r ts (starts ++ replicate (r + 1 - length starts) (length is)) is vs
    lanes_ended {n} {starts} r le h =
        let m : r - n ≡ r + 1 - length starts = omega (
          arith,
          (offsets_less h.lanes.offsets).count,
        ) in
        let e : n + (r - n) ≡ r = omega arith in
        subst (λ k. AreInOrder R f z r ts (starts ++ replicate k (length is)) is vs) m
        (subst (λ k. AreInOrder R f z k ts (starts ++ replicate (r - n) (length is)) is vs) e
        (more_ended (r - n) h))

    module _ {n : ℕ} {starts : List ℕ} (h : AreInOrder R f z n ts starts is vs) where
      -- the lanes before the open one
      before : (i : ℕ) → i < n → AreMerged R f z (triplets_of_lane ts i) is vs
          (slice_index starts i) (slice_index starts (i + 1))
      before i lt =
          let prefix = offset_prefix n starts (length is) (offsets_less h.lanes.offsets).count in
          rw (prefix i (omega arith), prefix (i + 1) (omega arith)) at
          (h.lanes.merged i (omega arith))

      -- the open lane
      pub open_lane : AreMerged R f z (triplets_of_lane ts n) is vs (slice_index starts n)
          (length is)
      open_lane =
          let count = (offsets_less h.lanes.offsets).count in
          let prefix = offset_prefix n starts (length is) count n (omega arith) in
          rw (prefix, offset_end n starts (length is) count) at (h.lanes.merged n (omega arith))

      pub open_start : slice_index starts n ≤ length is
      open_start =
          let count = (offsets_less h.lanes.offsets).count in
          omega (
            arith,
            offset_prefix n starts (length is) count n (omega arith),
            offset_end n starts (length is) count,
            h.lanes.offsets.ordered n (omega arith),
          )

      -- a triplet of the open lane
      pub triplet_added : {js : List ℕ} {ws : List T} (j : ℕ) (v : T) → length is ≤ length js
          → length ws ≡ length js → KeepsFirst 0 (slice_index starts n) is js
          → KeepsFirst z (slice_index starts n) vs ws
          → AreMerged R f z (triplets_of_lane ts n ++ (j, v) ∷ []) js ws (slice_index starts n)
          (length js)
          → AreInOrder R f z n (ts ++ (n, j, v) ∷ []) starts js ws
      triplet_added {js} j v longer sizes keeps_is keeps_vs merged =
          let less = offsets_less h.lanes.offsets in
          let t : ℕ × ℕ × T = (n, j, v) in
          record {
            lanes = record {
              offsets = offsets_more (length js) less (omega (arith, open_start));
              sizes = sizes;
              merged = merged_with n starts less.count
                  (λ i lt. offsets_ordered less (i + 1) n (omega arith) (omega arith))
                  (λ i lt. rw (lane_other ts t i (λ x. omega arith)) (before i lt)) keeps_is
                  keeps_vs (rw (lane_pushed ts t) merged);
            };
            none = λ i lt. lane_other ts t i (λ x. omega arith) ∙ h.none i lt;
          }

      -- if the open lane has no triplet, the lanes before it are complete
      closed : triplets_of_lane ts n ≡ []
          → AreLanesMerged R f z (triplets_of_lane ts) n starts is vs
      closed empty =
          let less = offsets_less h.lanes.offsets in
          let last : slice_index starts n ≡ length is =
          elim (lt_or_ge (slice_index starts n) (length is)) [
            | inl lt ↦
                let named = (rw empty at open_lane).named (slice_index starts n) (omega arith) lt in
                cc
            | inr ge ↦ omega (arith, open_start)
          ] in
          record {
            offsets = record {
              count = less.count;
              first = less.first;
              last = last;
              ordered = less.ordered;
            };
            sizes = h.lanes.sizes;
            merged = before;
          }

  -- after the last triplet, and once all lanes are ended
  pub all_read : (l : Triplets T) {n : ℕ} {starts is : List ℕ} {vs : List T} (p : ℕ)
      → length l.majors.now ≤ p → n ≤ l.major_dim
      → AreInOrder R f z n (take p (list_of l)) starts is vs
      → AreLanesMerged R f z (triplets_of_lane (list_of l)) l.major_dim
      (starts ++ replicate (l.major_dim + 1 - length starts) (length is)) is vs
  all_read l {n} {starts} {is} {vs} p most le h =
      let whole = take_all p (list_of l) (omega (arith, triplet_count l)) in
      closed (lanes_ended l.major_dim le (subst (λ ts. AreInOrder R f z n ts starts is vs) whole h))
      (lane_past l l.major_dim (omega arith))
