-- Filtering lane by lane gives sound arrays with the kept triplets.
use Rattle.std.proofs.Common.{◌≡◌, ℕ, zero, suc, ◌+◌, ◌-◌, ◌<◌, ◌≤◌, inl, inr, Bool, List, [], ◌∷◌}
use Rattle.std.proofs.Common.{◌++◌, length, take, drop, map, get_or, slice_range, All, refl, ap}
use Rattle.std.proofs.Common.{sym, subst, ◌∙◌, arith, length-append}
use Rattle.std.specs.Prelude.{⊤}
use Rattle.std.specs.List.{zip, AllPairs}
use Rattle.std.proofs.Math.Seq.{drop-append_seam}
use Rattle.std.proofs.lemmas.Grind.{common_steps, get_or_default_zero}
use Rattle.std.proofs.lemmas.List.{take-append-le, drop-append-le, length-drop}
use Rattle.std.proofs.lemmas.List.Edits.{length-between, get_or-between}
use Rattle.std.proofs.lemmas.List.Kept.{AllPairs-from_increasing}
use Rattle.std.proofs.lemmas.Slice.Zip.{firsts-zip}
use Rattle.sparse_algebra.proofs.Cases.{lt_add_one_cases}
use Rattle.sparse_pattern.specs.Raw.{start_of, end_of, lane_of, IsValidLane, IsValid, entries_from}
use Rattle.sparse_pattern.proofs.PatternLanes.{lane_rises, length-lane, get_or-lane}
use Rattle.sparse_compressed.specs.Compressed.{Compressed, arrays_of, IsSound}
use Rattle.sparse_compressed.specs.Compressed.{zip_values, lane_triplets}
use Rattle.sparse_compressed.specs.Filter.{IsKept}
use Rattle.sparse_compressed.specs.InnerFilter.{AreKeptLanes, IsGrown, IsKeptLane}
use Rattle.sparse_compressed.proofs.Kept.{IsKept-append, IsKept-map, All-kept, AllPairs-kept}
use Rattle.sparse_compressed.proofs.SortedForm.{in_lane, split_lane}
use Rattle.sparse_compressed.proofs.LaneValues.{values_of}

module _ {X : Type 0} where
  -- a range within a prefix
  pub slice_range-prefix : (xs ys : List X) (a b : ℕ) → a ≤ b → b ≤ length xs
      → slice_range (xs ++ ys) a b ≡ slice_range xs a b
  slice_range-prefix xs ys a b le within =
      ap (take (b - a)) (drop-append-le a xs ys (omega arith))
      ∙ take-append-le (b - a) (drop a xs) ys (omega (arith, length-drop a xs))

  -- the range that was appended
  pub between_end : (xs ys : List X) → slice_range (xs ++ ys) (length xs) (length xs + length ys)
      ≡ ys
  between_end xs ys =
      let long : length xs + length ys - length xs ≡ length ys = omega arith in
      ap (take (length xs + length ys - length xs)) (drop-append_seam xs ys)
      ∙ rw long (grind (arith, common_steps))

module _ {T : Type 0} (R : ℕ × ℕ × T → Bool → Type 0) (m : Compressed T) where
  module _ (offsets indices more : List ℕ) (values more_values : List T) (i : ℕ)
      (h : AreKeptLanes R m offsets indices values i)
      (count : length more_values ≡ length more) where
    abbrev end : ℕ
    end = length indices + length more

    earlier : (k : ℕ) → k < i + 1 → get_or (offsets ++ end ∷ []) k 0 ≡ get_or offsets k 0
    earlier k lt = let within : k < length offsets = omega (arith, h.offset_count) in grind
        (arith, common_steps)

    newest : get_or (offsets ++ end ∷ []) (i + 1) 0 ≡ end
    newest = let at : length offsets ≡ i + 1 = h.offset_count in grind (arith, common_steps)

    old_lane : (k : ℕ) → k < i
        → IsKeptLane R m (offsets ++ end ∷ []) (indices ++ more) (values ++ more_values) k
    old_lane k lt =
        let l = h.lanes k lt in
        record {
          ordered = rw (earlier k (omega arith), earlier (k + 1) (omega arith)) l.ordered;
          inside = rw (earlier (k + 1) (omega arith))
              (omega (arith, l.inside, length-append indices more));
          kept = rw (
            earlier k (omega arith),
            earlier (k + 1) (omega arith),
            slice_range-prefix indices more (get_or offsets k 0) (get_or offsets (k + 1) 0) l.ordered
                l.inside,
            slice_range-prefix values more_values (get_or offsets k 0)
                (get_or offsets (k + 1) 0) l.ordered (omega (arith, l.inside, h.value_count)),
          ) l.kept;
        }

    new_lane : IsKept (λ p b. R (i, p.0, p.1) b) (zip (lane_of m.pattern i) (values_of m i))
        (zip more more_values)
        → IsKeptLane R m (offsets ++ end ∷ []) (indices ++ more) (values ++ more_values) i
    new_lane kept =
        let values_end : slice_range (values ++ more_values) (length indices) end ≡ more_values =
        ap (λ n. slice_range (values ++ more_values) n (n + length more)) (sym h.value_count)
        ∙ ap (λ n. slice_range (values ++ more_values) (length values) (length values + n))
        (sym count) ∙ between_end values more_values in
        record {
          ordered = rw (earlier i (omega arith), newest, h.last) (omega arith);
          inside = rw newest (omega (arith, length-append indices more));
          kept = rw (earlier i (omega arith), newest, h.last, between_end indices more, values_end)
              kept;
        }

    one_more : IsKept (λ p b. R (i, p.0, p.1) b) (zip (lane_of m.pattern i) (values_of m i))
        (zip more more_values)
        → AreKeptLanes R m (offsets ++ end ∷ []) (indices ++ more) (values ++ more_values) (i + 1)
    one_more kept = record {
      offset_count = omega (arith, length-append offsets (end ∷ []), h.offset_count);
      first = earlier 0 (omega arith) ∙ h.first;
      last = newest ∙ sym (length-append indices more);
      value_count = omega (
        arith,
        length-append values more_values,
        length-append indices more,
        h.value_count,
        count,
      );
      lanes = λ k lt. elim (lt_add_one_cases k i lt) [
        | inl below ↦ old_lane k below
        | inr here ↦ subst
            (IsKeptLane R m (offsets ++ end ∷ []) (indices ++ more) (values ++ more_values))
            (sym here) (new_lane kept)
      ];
    }

  -- before the first lane
  pub none_kept : AreKeptLanes R m (0 ∷ []) [] [] 0
  none_kept = record {
    offset_count = refl;
    first = refl;
    last = refl;
    value_count = refl;
    lanes = λ k lt. absurd (omega arith);
  }

  -- after one more lane
  pub kept_step : {offsets indices indices' : List ℕ} {values values' : List T} {i e : ℕ}
      {js : List ℕ} {us : List T}
      → AreKeptLanes R m offsets indices values i → js ≡ lane_of m.pattern i → us ≡ values_of m i
      → IsGrown (λ p b. R (i, p.0, p.1) b) (zip js us) indices values indices' values'
      → e ≡ length indices' → AreKeptLanes R m (offsets ++ e ∷ []) indices' values' (i + 1)
  kept_step {offsets} {indices} {indices'} {values} {values'} {i} {e} h here here_values grown is =
      let kept = rw (here, here_values) at grown.kept in
      let long : e ≡ length indices + length grown.indices = is ∙ ap length grown.index_end
      ∙ length-append indices grown.indices in
      rw (grown.index_end, grown.value_end, long)
      (one_more offsets indices grown.indices values grown.values i h grown.count kept)

  -- after all lanes
  module _ (sound : IsSound m) (offsets indices : List ℕ) (values : List T)
      (done : AreKeptLanes R m offsets indices values m.pattern.major_dim) where
    abbrev now : Compressed T
    now = arrays_of m.pattern.major_dim m.pattern.minor_dim offsets indices values

    -- the indices of a lane are some of its indices before the filter, in order
    indices_kept : (i : ℕ) → i < m.pattern.major_dim
        → IsKept (λ _ _. ⊤) (lane_of m.pattern i) (lane_of now.pattern i)
    indices_kept i lt =
        let l = done.lanes i lt in
        let v = sound.valid.lanes i lt in
        let old_values = length-between m.values (start_of m.pattern i) (end_of m.pattern i)
        (omega (arith, v.inside, sound.count)) in
        let old_indices = length-between m.pattern.indices (start_of m.pattern i)
        (end_of m.pattern i) v.inside in
        let new_values = length-between values (start_of now.pattern i) (end_of now.pattern i)
        (omega (arith, l.inside, done.value_count)) in
        let new_indices = length-between indices (start_of now.pattern i) (end_of now.pattern i)
        l.inside in
        let firsts : IsKept {X = ℕ} (λ _ _. ⊤) (map (λ p. p.0)
        (zip (lane_of m.pattern i) (values_of m i)))
        (map (λ p. p.0) (zip (lane_of now.pattern i) (values_of now i))) =
        IsKept-map _ _ (λ p. p.0) (λ _ _ _. tt) _ _ l.kept in
        rw (
          firsts-zip (lane_of m.pattern i) (values_of m i) (old_values ∙ sym old_indices),
          firsts-zip (lane_of now.pattern i) (values_of now i) (new_values ∙ sym new_indices),
        ) at
        firsts

    valid_lane : (i : ℕ) → i < m.pattern.major_dim → IsValidLane now.pattern i
    valid_lane i lt = record {
      ordered = l.ordered;
      inside = l.inside;
      bounded = λ p from to. let k = p - s in let back : s + k ≡ p =
          omega arith in subst (λ q. get_or indices q 0 < m.pattern.minor_dim) back
          (rw (← read k (omega arith)) (below k 0 (omega (arith, long))));
      rising = λ p from to.
          let k = p - 1 - s in
          let one : s + k ≡ p - 1 = omega arith in
          let other : s + (k + 1) ≡ p = omega arith in
          let low = read k (omega arith) ∙ ap (λ q. get_or indices q 0) one in
          let high = read (k + 1) (omega arith) ∙ ap (λ q. get_or indices q 0) other in
          omega (arith, rises k (k + 1) 0 (omega arith) (omega (arith, long)), low, high);
    }
      where
        l : IsKeptLane R m offsets indices values i
        l = done.lanes i lt

        v : IsValidLane m.pattern i
        v = sound.valid.lanes i lt

        s : ℕ
        s = start_of now.pattern i

        e : ℕ
        e = end_of now.pattern i

        long : length (slice_range indices s e) ≡ e - s
        long = length-between indices s e l.inside

        read : (k : ℕ) → s + k < e → get_or (slice_range indices s e) k 0 ≡ get_or indices (s + k) 0
        read k within = get_or-between indices s e k 0 within

        below : All (λ j. j < m.pattern.minor_dim) (lane_of now.pattern i)
        below = All-kept _ (λ j. j < m.pattern.minor_dim) (lane_of m.pattern i)
            (lane_of now.pattern i) (indices_kept i lt) (λ k d within.
            let old = length-lane m.pattern i v in
            let bound = v.bounded (start_of m.pattern i + k) (omega arith)
            (omega (arith, old, within)) in
            rw (
              get_or_default_zero (lane_of m.pattern i) k d within,
              get_or-lane m.pattern i v k within,
            ) bound)

        rises : AllPairs (λ x y. x < y) (lane_of now.pattern i)
        rises = AllPairs-kept _ (λ x y. x < y) (lane_of m.pattern i) (lane_of now.pattern i)
            (indices_kept i lt) (AllPairs-from_increasing (lane_of m.pattern i)
            (λ k within. lane_rises m.pattern i v k (k + 1) (omega arith) within))

    pub kept_valid : IsValid now.pattern
    kept_valid = record {
      count = done.offset_count;
      first = done.first;
      last = done.last;
      lanes =
          valid_lane;
    }

    kept_from : (n i : ℕ) → i + n ≡ m.pattern.major_dim
        → IsKept R (zip_values (entries_from m.pattern.offsets m.pattern.indices i n)
        (drop (start_of m.pattern i) m.values)) (zip_values (entries_from offsets indices i n)
        (drop (get_or offsets i 0) values))
    kept_from zero i e = refl
    kept_from (suc n) i e =
        let v = sound.valid.lanes i (omega arith) in
        let l = done.lanes i (omega arith) in
        rw (
          split_lane m.pattern.offsets m.pattern.indices m.values i n v.ordered v.inside,
          split_lane offsets indices values i n l.ordered l.inside,
        )
        (IsKept-append R _ _ _ _ (IsKept-map _ R (in_lane i) (λ _ _ h. h) _ _ l.kept)
        (kept_from n (i + 1) (omega arith)))

    pub kept_triplets : IsKept R (lane_triplets m) (lane_triplets now)
    kept_triplets =
        let all = kept_from m.pattern.major_dim 0 (omega arith) in
        subst (λ k. IsKept R
        (zip_values (entries_from m.pattern.offsets m.pattern.indices 0 m.pattern.major_dim)
        (drop k m.values)) (lane_triplets now)) sound.valid.first
        (subst (λ k. IsKept R
        (zip_values (entries_from m.pattern.offsets m.pattern.indices 0 m.pattern.major_dim)
        (drop (start_of m.pattern 0) m.values))
        (zip_values (entries_from offsets indices 0 m.pattern.major_dim) (drop k values)))
        done.first all)
