-- A binary search in a lane finds the offset of an entry.
use Rattle.std.proofs.Common.{◌≡◌, ℕ, ◌+◌, ◌-◌, ◌<◌, ◌≤◌, ◌⊎◌, inl, inr, ◌↔◌, List, [], length}
use Rattle.std.proofs.Common.{get_or, take, drop, Option, Some, None, Result, Ok, Err, ap, sym, ◌∙◌}
use Rattle.std.proofs.Common.{refl, arith}
use Rattle.std.specs.Prelude.{◌==◌, position, option_map, nat_lt, cond}
use Rattle.std.specs.List.Sorted.{IsBinarySearchResult, IsStrictlyIncreasing}
use Rattle.std.specs.Ordering.{nat_cmp}
use Rattle.std.specs.Result.{result_ok}
use Rattle.std.proofs.lemmas.Bool.Decides.{nat_tests}
use Rattle.std.proofs.lemmas.List.Kept.{AllPairs-from_increasing}
use Rattle.std.proofs.lemmas.List.Sorted.{searched}
use Rattle.std.proofs.lemmas.List.Sums.{position_or_len_is}
use Rattle.std.proofs.lemmas.List.{get_or_past}
use Rattle.std.proofs.lemmas.List.Quantifiers.{position-Some}
use Rattle.std.proofs.lemmas.Option.{none-some, same_Some}
use Rattle.sparse_algebra.proofs.Cases.{lt_or_ge}
use borrow.Author.Tests.{lt-ltb, le-ltb}
use Rattle.sparse_pattern.specs.Raw.{Raw, start_of, end_of, lane_of, IsValid, IsValidLane}
use Rattle.sparse_pattern.proofs.PatternLanes.{lane_rises, length-lane, get_or-lane}
use Rattle.sparse_compressed.specs.Compressed.{IsOffset}
use Rattle.sparse_compressed.specs.StoredEntries.{find_offset}

-- the indices of a valid lane are strictly increasing
pub rising_lane : (d : Raw) (i : ℕ) → IsValidLane d i → IsStrictlyIncreasing (lane_of d i)
rising_lane d i valid k within = lane_rises d i valid k (k + 1) (omega arith) within

not_falling : (xs : List ℕ) → IsStrictlyIncreasing xs → (a b : ℕ) → a ≤ b → b < length xs
    → get_or xs a 0 ≤ get_or xs b 0
not_falling xs rising a b le within = grind (arith, AllPairs-from_increasing xs rising a b 0)

-- the offset of a number in strictly increasing numbers
pub offset_at : (xs : List ℕ) (j k : ℕ) → IsStrictlyIncreasing xs → k < length xs
    → get_or xs k 0 ≡ j → position (λ x. x == j) xs ≡ Some k
offset_at xs j k rising within is =
    let here = position_or_len_is (λ x. x == j) xs k 0 (omega arith)
    (λ l lt. grind (arith, nat_tests, AllPairs-from_increasing xs rising l k 0))
    (λ lt. grind (arith, nat_tests)) in
    ap (λ n. cond (nat_lt n (length xs)) (Some n) None) here
    ∙ ap (λ b. cond b (Some k) None) (lt-ltb k (length xs) within)

-- a binary search in strictly increasing indices finds the offset
pub search_is_offset : (xs : List ℕ) (j : ℕ) (r : Result ℕ ℕ) → IsStrictlyIncreasing xs
    → IsBinarySearchResult (λ y. nat_cmp y j) xs r → result_ok r ≡ position (λ x. x == j) xs
search_is_offset xs j (Ok k) rising is =
    let at = searched xs j (Ok k) is (not_falling xs rising) in
    sym (offset_at xs j k rising at.0 at.1)
search_is_offset xs j (Err k) rising is =
    let gap = searched xs j (Err k) is (not_falling xs rising) in
    let past = position_or_len_is (λ x. x == j) xs (length xs) 0 (omega arith)
    (λ l lt. grind (arith, nat_tests, gap.1 l, gap.2 l)) (λ lt. absurd (omega arith)) in
    sym (ap (λ n. cond (nat_lt n (length xs)) (Some n) None) past
    ∙ ap (λ b. cond b (Some (length xs)) None) (le-ltb (length xs) (length xs) (omega arith)))

none_or_some : {X : Type 0} (o : Option X) → (o ≡ None) ⊎ ((x : X) × (o ≡ Some x))
none_or_some None = inl refl
none_or_some (Some x) = inr (x, refl)

module _ (d : Raw) (valid : IsValid d) (i j p : ℕ) where
  -- no entry is stored past the last lane
  find_offset-past : d.major_dim ≤ i → find_offset d i j ≡ None
  find_offset-past past =
      let end : end_of d i ≡ 0 = get_or_past d.offsets (i + 1) 0 (omega (arith, valid.count)) in
      let count : end_of d i - start_of d i ≡ 0 = omega arith in
      let empty : lane_of d i ≡ [] = ap (λ n. take n (drop (start_of d i) d.indices)) count in
      ap (λ xs. option_map (λ k. start_of d i + k) (position (λ x. x == j) xs)) empty

  find_offset-of_entry : IsOffset d i j p → find_offset d i j ≡ Some p
  find_offset-of_entry at =
      let lane = valid.lanes i at.0.lane in
      let k = p - start_of d i in
      let within : k < length (lane_of d i) = omega
      (arith, length-lane d i lane, at.0.from, at.0.to) in
      let back : start_of d i + k ≡ p = omega (arith, at.0.from) in
      let is : get_or (lane_of d i) k 0 ≡ j = get_or-lane d i lane k within ∙ rw back at.1 in
      ap (option_map (λ k. start_of d i + k)) (offset_at (lane_of d i) j k (rising_lane d i lane)
      within is) ∙ ap Some back

  entry-of_find_offset : find_offset d i j ≡ Some p → IsOffset d i j p
  entry-of_find_offset found = elim (lt_or_ge i d.major_dim) [
    | inr past ↦ absurd (none-some p (sym (find_offset-past past) ∙ found))
    | inl inside ↦
        let lane = valid.lanes i inside in
        elim (none_or_some (position (λ x. x == j) (lane_of d i))) [
          | inl none ↦ absurd (none-some p (sym (ap (option_map (λ k. start_of d i + k)) none)
              ∙ found))
          | inr some ↦
              let at = position-Some (λ x. x == j) (lane_of d i) some.0 0 some.1 in
              let is : start_of d i + some.0 ≡ p = same_Some _ _
              (sym (ap (option_map (λ k. start_of d i + k)) some.1) ∙ found) in
              let index : get_or (lane_of d i) some.0 0 ≡ j = grind (arith, nat_tests, at) in
              let index' = sym (get_or-lane d i lane some.0 at.0) ∙ index in (
                record {
                  lane = inside;
                  from = omega arith;
                  to =
                      omega (arith, length-lane d i lane, at.0);
                },
                rw (sym is) index',
              )
        ]
  ]

  -- a look-up returns the offset p if and only if p is the offset of the entry
  pub find_offset-is_offset : (find_offset d i j ≡ Some p) ↔ IsOffset d i j p
  find_offset-is_offset = (entry-of_find_offset, find_offset-of_entry)
