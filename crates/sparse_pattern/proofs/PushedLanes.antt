-- A valid pattern to which a lane is appended is valid, and has the entries of both.
use Rattle.std.proofs.Common.{◌≡◌, ℕ, ◌+◌, ◌-◌, ◌<◌, ◌≤◌, inl, inr, ◌↔◌, List, [], ◌∷◌, ◌++◌}
use Rattle.std.proofs.Common.{length, take, get_or, slice_range, Contains, length-append, ap, sym}
use Rattle.std.proofs.Common.{subst, ◌∙◌, refl, arith}
use Rattle.std.specs.List.Sorted.{IsStrictlyIncreasing}
use Rattle.std.proofs.lemmas.List.{get_or_append_left, get_or_push, get_or-append_right}
use Rattle.std.proofs.lemmas.List.{length_push, drop_at, take_all}
use Rattle.std.proofs.lemmas.List.Elements.{Contains-get_or}
use Rattle.sparse_algebra.proofs.Cases.{lt_add_one_cases}
use Rattle.sparse_pattern.specs.Raw.{Raw, raw_of, start_of, end_of, lane_of, IsValidLane, IsValid}
use Rattle.sparse_pattern.specs.Raw.{IsEntry}
use Rattle.sparse_pattern.proofs.LaneLists.{lane_has}

module _ (m n : ℕ) (offsets indices lane : List ℕ) (valid : IsValid (raw_of n m offsets indices))
    (rising : IsStrictlyIncreasing lane) (bounded : (j : ℕ) → Contains lane j → j < m) where
  abbrev pub pushed : Raw
  pushed = raw_of (n + 1) m (offsets ++ length (indices ++ lane) ∷ []) (indices ++ lane)

  long : length (indices ++ lane) ≡ length indices + length lane
  long = length-append indices lane

  pub offset_kept : (i : ℕ) → i ≤ n
      → get_or (offsets ++ length (indices ++ lane) ∷ []) i 0 ≡ get_or offsets i 0
  offset_kept i le = get_or_append_left offsets (length (indices ++ lane) ∷ []) 0 i
      (omega (arith, valid.count))

  pub offset_last : get_or (offsets ++ length (indices ++ lane) ∷ []) (n + 1) 0 ≡ length
      (indices ++ lane)
  offset_last = get_or_push offsets (length (indices ++ lane)) 0 (n + 1) valid.count

  index_kept : (p : ℕ) → p < length indices → get_or (indices ++ lane) p 0 ≡ get_or indices p 0
  index_kept p lt = get_or_append_left indices lane 0 p lt

  index_new : (p : ℕ) → length indices ≤ p
      → get_or (indices ++ lane) p 0 ≡ get_or lane (p - length indices) 0
  index_new p le = get_or-append_right indices lane (length indices) p 0 refl le

  lane_kept : (i : ℕ) → i < n → IsValidLane pushed i
  lane_kept i lt =
      let start = offset_kept i (omega arith) in
      let end = offset_kept (i + 1) (omega arith) in
      let old = valid.lanes i lt in
      record {
        ordered = omega (arith, old.ordered);
        inside = omega (arith, old.inside, long);
        bounded = λ p from to. omega (
          arith,
          index_kept p (omega (arith, old.inside)),
          old.bounded p (omega arith) (omega arith),
        );
        rising = λ p from to. omega (
          arith,
          index_kept p (omega (arith, old.inside)),
          index_kept (p - 1) (omega (arith, old.inside)),
          old.rising p (omega arith) (omega arith),
        );
      }

  start_last : start_of pushed n ≡ length indices
  start_last = offset_kept n (omega arith) ∙ valid.last

  lane_last : IsValidLane pushed n
  lane_last = record {
    ordered = omega (arith, start_last, offset_last, long);
    inside = omega (arith, offset_last);
    bounded = λ p from to.
        let q = p - length indices in
        let within : q < length lane = omega (arith, offset_last, long, start_last) in
        omega (
          arith,
          index_new p (omega (arith, start_last)),
          bounded (get_or lane q 0) (Contains-get_or lane q 0 within),
        );
    rising = λ p from to.
        let q = p - 1 - length indices in
        let within : q + 1 < length lane = omega (arith, offset_last, long, start_last) in
        let e : p - length indices ≡ q + 1 = omega (arith, start_last) in
        omega (
          arith,
          index_new p (omega (arith, start_last)),
          index_new (p - 1) (omega (arith, start_last)),
          ap (λ k. get_or lane k 0) e,
          rising q within,
        );
  }

  pub valid_pushed : IsValid pushed
  valid_pushed = record {
    count = length_push offsets (length (indices ++ lane)) ∙ ap (λ k. k + 1) valid.count;
    first = offset_kept 0 (omega arith) ∙ valid.first;
    last = offset_last;
    lanes = λ i lt. elim (lt_add_one_cases i n lt) [
      | inl old ↦ lane_kept i old
      | inr last ↦ subst (λ k. IsValidLane pushed k) (sym last)
          lane_last
    ];
  }

  pub entries_kept : (i j : ℕ) → i < n
      → IsEntry pushed i j ↔ IsEntry (raw_of n m offsets indices) i j
  entries_kept i j lt =
      let start = offset_kept i (omega arith) in
      let end = offset_kept (i + 1) (omega arith) in
      let inside = (valid.lanes i lt).inside in (
        λ h. record {
          at = h.at;
          in_lane = record {
            lane = lt;
            from = omega (arith, h.in_lane.from);
            to =
                omega (arith, h.in_lane.to);
          };
          index = sym (index_kept h.at (omega (arith, h.in_lane.to))) ∙ h.index;
        },
        λ h. record {
          at = h.at;
          in_lane = record {
            lane = omega arith;
            from = omega (arith, h.in_lane.from);
            to =
                omega (arith, h.in_lane.to);
          };
          index = index_kept h.at (omega (arith, h.in_lane.to)) ∙ h.index;
        },
      )

  pub lane_is : lane_of pushed n ≡ lane
  lane_is =
      let whole : length (indices ++ lane) - length indices ≡ length lane = omega (arith, long) in
      ap (λ s. slice_range (indices ++ lane) s (end_of pushed n)) start_last
      ∙ ap (slice_range (indices ++ lane) (length indices)) offset_last
      ∙ ap (take (length (indices ++ lane) - length indices))
      (drop_at indices lane (length indices) refl)
      ∙ take_all (length (indices ++ lane) - length indices) lane (omega arith)

  pub entries_last : (j : ℕ) → IsEntry pushed n j ↔ Contains lane j
  entries_last j =
      let has = lane_has pushed valid_pushed n j (omega arith) in (
        λ h. subst (λ l. Contains l j) lane_is (has.1 h),
        λ h. has.0 (subst (λ l. Contains l j) (sym lane_is) h),
      )
