-- The merging pass over one lane: an entry is added to the last one or appended.
use Rattle.std.proofs.Common.{◌≡◌, ◌≢◌, ℕ, zero, suc, ◌+◌, ◌-◌, ◌<◌, ◌≤◌, inl, inr, false}
use Rattle.std.proofs.Common.{List, [], ◌∷◌, ◌++◌, length, take, get_or, set, slice_index}
use Rattle.std.proofs.Common.{refl, ap, sym, ◌∙◌, subst, arith, length-append}
use Rattle.std.proofs.Common.{get_or-set_same, get_or-set_other}
use Rattle.std.specs.List.Sorted.{IsNonDecreasingBy}
use Rattle.std.proofs.lemmas.List.{get_or_append_left, get_or_default, get_or_push, get_or-take}
use Rattle.std.proofs.lemmas.List.{length-take-le}
use Rattle.sparse_algebra.proofs.Cases.{lt_or_ge, lt_suc_cases, same_or_not, true_or_false}
use Rattle.sparse_algebra.specs.Algebra.{CommRing}
use Rattle.sparse_algebra.proofs.RingLemmas.{zero_add}
use Rattle.sparse_convert.specs.InnerTripletLanes.{index_sum}
use Rattle.sparse_convert.specs.InnerMerged.{AreMerged, KeepsFirst}
use Rattle.sparse_convert.proofs.IndexSums.{has_index, has_index-here, has_index-other, all_has}
use Rattle.sparse_convert.proofs.IndexSums.{index_sum-none, index_sum-here, index_sum-other}

module _ {R : CommRing} {T : Type 0} {f : T → R.Carrier} {z : T} where
  -- a lane without entries
  pub empty_merged : {is : List ℕ} {vs : List T} {start : ℕ} → AreMerged R f z [] is vs start start
  empty_merged = record {
    rising = λ p from to. absurd (omega arith);
    named = λ p from to. absurd (omega arith);
    found = λ j has. cc;
    sums = λ p from to. absurd (omega arith);
  }

  module _ {lane : List (ℕ × T)} {is : List ℕ} {vs : List T} {start end : ℕ}
      (m : AreMerged R f z lane is vs start end) where
    -- the indices of a merged lane are strictly increasing
    merged_step : (p : ℕ) → start ≤ p → suc p < end → slice_index is p < slice_index is (suc p)
    merged_step p from to =
        let e : suc p - 1 ≡ p = omega arith in
        omega (arith, m.rising (suc p) (omega arith) to, ap (slice_index is) e)

    pub merged_rises : (p q : ℕ) → start ≤ p → p < q → q < end → slice_index is p < slice_index is q
    merged_rises p zero from lt to = absurd (omega arith)
    merged_rises p (suc q) from lt to = elim (lt_suc_cases p q lt) [
      | inl before ↦ omega (
        arith,
        merged_rises p q from before (omega arith),
        merged_step q (omega arith) to,
      )
      | inr here ↦ omega (arith, ap (slice_index is) here, merged_step q (omega arith) to)
    ]

    -- a lane is the same in arrays that have the same elements before its end
    pub merged_kept : {js : List ℕ} {ws : List T} → KeepsFirst 0 end is js → KeepsFirst z end vs ws
        → AreMerged R f z lane js ws start end
    merged_kept keeps_is keeps_vs = record {
      rising = λ p from to. rw (keeps_is p to, keeps_is (p - 1) (omega arith)) (m.rising p from to);
      named = λ p from to. ap (λ j. has_index j lane) (keeps_is p to) ∙ m.named p from to;
      found = λ j has. let at = m.found j has in (at.0, at.1, at.2, keeps_is at.0 at.2 ∙ at.3);
      sums = λ p from to. ap f (keeps_vs p to) ∙ m.sums p from to
          ∙ ap (index_sum R f lane) (sym (keeps_is p to));
    }

  -- the first k entries of a sorted lane have no index above that of the next one
  pub merged_below : (lane : List (ℕ × T)) (k : ℕ) {is : List ℕ} {vs : List T} {start end : ℕ}
      → AreMerged R f z (take k lane) is vs start end → IsNonDecreasingBy (λ e. e.0) lane
      → (e : ℕ × T) → k < length lane → e ≡ get_or lane k e → (p : ℕ) → start ≤ p → p < end
      → slice_index is p ≤ e.0
  merged_below lane k {is} m up e lt at p from to =
      all_has (λ j. j ≤ e.0) (take k lane) (slice_index is p)
      (λ q d within.
      let size = length-take-le k lane (omega arith) in
      omega (
        arith,
        ap (λ x. x.0) (get_or-take k lane q d (omega arith)),
        up q k d (omega arith) lt,
        ap (λ x. x.0) (get_or_default lane k d e lt),
        ap (λ x. x.0) at,
      )) (m.named p from to)

  -- one more entry
  module _ {lane : List (ℕ × T)} {is : List ℕ} {vs : List T} {start : ℕ} (e : ℕ × T)
      (sizes : length vs ≡ length is) (m : AreMerged R f z lane is vs start (length is)) where
    abbrev longer : List (ℕ × T)
    longer = lane ++ e ∷ []

    -- with the index of the last one
    pub entry_added : (q : ℕ) (w : T) → start < length is → q ≡ length is - 1
        → slice_index is q ≡ e.0 → f w ≡ R.add (f (get_or vs q z)) (f e.1)
        → AreMerged R f z longer is (set vs q w) start (length is)
    entry_added q w some end last sum_at = record {
      rising = m.rising;
      named = λ p from to. elim (same_or_not e.0 (slice_index is p)) [
        | inl here ↦ has_index-here lane e (slice_index is p) here
        | inr other ↦ has_index-other lane e (slice_index is p) other ∙ m.named p from to
      ];
      found = λ j has. elim (same_or_not e.0 j) [
        | inl here ↦ (q, omega arith, omega arith, last ∙ here)
        | inr other ↦ m.found j (sym (has_index-other lane e j other) ∙ has)
      ];
      sums = λ p from to. elim (same_or_not p q) [
        | inl here ↦
            let whole : f (get_or (set vs q w) q z) ≡ index_sum R f longer (slice_index is q) =
            ap f (get_or-set_same vs q w z (omega (arith, sizes))) ∙ sum_at
            ∙ ap (λ c. R.add c (f e.1)) (m.sums q (omega arith) (omega arith))
            ∙ sym (index_sum-here R f lane e (slice_index is q) (sym last)) in
            subst (λ r. f (get_or (set vs q w) r z) ≡ index_sum R f longer (slice_index is r))
            (sym here) whole
        | inr other ↦
            let below : slice_index is p < slice_index is q =
            merged_rises m p q from (omega arith) (omega arith) in
            ap f (get_or-set_other vs q p w z other) ∙ m.sums p from to
            ∙ sym (index_sum-other R f lane e (slice_index is p) (λ x. omega arith))
      ];
    }

    -- with a greater index than the last one
    pub entry_pushed : start ≤ length is
        → (start < length is → slice_index is (length is - 1) < e.0)
        → AreMerged R f z longer (is ++ e.0 ∷ []) (vs ++ e.1 ∷ []) start (length (is ++ e.0 ∷ []))
    entry_pushed from_start above =
        let js = is ++ e.0 ∷ [] in
        let ws = vs ++ e.1 ∷ [] in
        let n = length is in
        let long : length js ≡ n + 1 = omega (arith, length-append is (e.0 ∷ [])) in
        let seam : slice_index js n ≡ e.0 = get_or_push is e.0 0 n refl in
        let prefix : (p : ℕ) → p < n → slice_index js p ≡ slice_index is p =
        λ p to. get_or_append_left is (e.0 ∷ []) 0 p to in
        let front_value : (p : ℕ) → p < n → get_or ws p z ≡ get_or vs p z =
        λ p to. get_or_append_left vs (e.1 ∷ []) z p (omega (arith, sizes)) in
        let before : (p : ℕ) → start ≤ p → p < n → slice_index is p < e.0 = λ p from to.
        elim (same_or_not p (n - 1)) [
          | inl here ↦ omega (arith, ap (slice_index is) here, above (omega arith))
          | inr other ↦ omega (
            arith,
            merged_rises m p (n - 1) from (omega arith) (omega arith),
            above (omega arith),
          )
        ] in
        let differ : (p : ℕ) → start ≤ p → p < n → e.0 ≢ slice_index is p =
        λ p from to x. omega (arith, before p from to) in
        let none : has_index e.0 lane ≡ false = elim (true_or_false (has_index e.0 lane)) [
          | inl has ↦ let p = m.found e.0 has in absurd (omega (arith, before p.0 p.1 p.2, p.3))
          | inr miss ↦ miss
        ] in
        record {
          rising = λ p from to. elim (lt_or_ge p n) [
            | inl less ↦ rw (prefix p less, prefix (p - 1) (omega arith)) (m.rising p from less)
            | inr most ↦
                let here : n ≡ p = omega arith in
                omega (
                  arith,
                  prefix (p - 1) (omega arith),
                  before (p - 1) (omega arith) (omega arith),
                  ap (slice_index js) here,
                  seam,
                )
          ];
          named = λ p from to. elim (lt_or_ge p n) [
            | inl less ↦ ap (λ j. has_index j longer) (prefix p less)
                ∙ has_index-other lane e (slice_index is p) (differ p from less)
                ∙ m.named p from less
            | inr most ↦
                let here : n ≡ p = omega arith in
                has_index-here lane e (slice_index js p) (sym seam ∙ ap (slice_index js) here)
          ];
          found = λ j has. elim (same_or_not e.0 j) [
            | inl here ↦ (n, from_start, omega arith, seam ∙ here)
            | inr other ↦ let p = m.found j (sym (has_index-other lane e j other) ∙ has) in
                (p.0, p.1, omega (arith, p.2), prefix p.0 p.2 ∙ p.3)
          ];
          sums = λ p from to. elim (lt_or_ge p n) [
            | inl less ↦ ap f (front_value p less) ∙ m.sums p from less
                ∙ sym (index_sum-other R f lane e (slice_index is p) (differ p from less))
                ∙ ap (index_sum R f longer) (sym (prefix p less))
            | inr most ↦
                let here : n ≡ p = omega arith in
                let whole : f (get_or ws n z) ≡ index_sum R f longer (slice_index js n) =
                ap f (get_or_push vs e.1 z n sizes) ∙ sym (zero_add R (f e.1))
                ∙ ap (λ c. R.add c (f e.1)) (sym (index_sum-none R f lane e.0 none))
                ∙ sym (index_sum-here R f lane e e.0 refl)
                ∙ ap (index_sum R f longer) (sym seam) in
                subst (λ r. f (get_or ws r z) ≡ index_sum R f longer (slice_index js r)) here whole
          ];
        }
