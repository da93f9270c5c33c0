-- Offsets of lanes are non-decreasing, also with one more lane.
use Rattle.std.proofs.Common.{◌≡◌, ℕ, zero, suc, ◌+◌, ◌-◌, ◌≤◌, inl, inr, List, [], ◌∷◌, ◌++◌}
use Rattle.std.proofs.Common.{length, take, drop, slice_index, refl, ap, ◌∙◌, arith}
use Rattle.std.proofs.Common.{length-append}
use Rattle.std.proofs.lemmas.List.{get_or_append_left, get_or_past, get_or_push}
use Rattle.sparse_algebra.proofs.Cases.{le_cases, lt_add_one_cases}
use Rattle.sparse_convert.specs.InnerTripletLanes.{AreOffsets, entries_of_lane}

-- a lane past the last one has no entries
pub no_lane : {E : Type 0} (offsets : List ℕ) (entries : List E) (i : ℕ)
    → length offsets ≤ i + 1 → entries_of_lane offsets entries i ≡ []
no_lane offsets entries i le =
    let past : slice_index offsets (i + 1) ≡ 0 = get_or_past offsets (i + 1) 0 le in
    let none : slice_index offsets (i + 1) - slice_index offsets i ≡ 0 = omega arith in
    ap (λ m. take m (drop (slice_index offsets i) entries)) none

module _ {n total : ℕ} {offsets : List ℕ} (are : AreOffsets n total offsets) where
  pub offsets_ordered : (i k : ℕ) → i ≤ k → k ≤ n → slice_index offsets i ≤ slice_index offsets k
  offsets_ordered i zero le within =
      let e : i ≡ zero = omega arith in
      omega (arith, ap (slice_index offsets) e)
  offsets_ordered i (suc k) le within = elim (le_cases i (suc k) le) [
    | inl lt ↦
        let e : k + 1 ≡ suc k = omega arith in
        omega (
          arith,
          offsets_ordered i k (omega arith) (omega arith),
          are.ordered k (omega arith),
          ap (slice_index offsets) e,
        )
    | inr same ↦ omega (arith, ap (slice_index offsets) same)
  ]

  pub offsets_within : (i : ℕ) → i ≤ n → slice_index offsets i ≤ total
  offsets_within i le = omega (arith, offsets_ordered i n le (omega arith), are.last)

-- offsets with one more lane, which ends at e
module _ (n : ℕ) (starts : List ℕ) (e : ℕ) (count : length starts ≡ n + 1) where
  pub offset_prefix : (p : ℕ) → p ≤ n → slice_index (starts ++ e ∷ []) p ≡ slice_index starts p
  offset_prefix p le = get_or_append_left starts (e ∷ []) 0 p (omega (arith, count))

  pub offset_end : slice_index (starts ++ e ∷ []) (n + 1) ≡ e
  offset_end = get_or_push starts e 0 (n + 1) count

pub offsets_more : {n total : ℕ} {starts : List ℕ} (e : ℕ) → AreOffsets n total starts → total ≤ e
    → AreOffsets (n + 1) e (starts ++ e ∷ [])
offsets_more {n} {starts = starts} e are le =
    let prefix = offset_prefix n starts e are.count in
    record {
      count = omega (arith, length-append starts (e ∷ []), are.count);
      first = prefix 0 (omega arith) ∙ are.first;
      last = offset_end n starts e are.count;
      ordered = λ i lt. elim (lt_add_one_cases i n lt) [
        | inl before ↦ omega (
          arith,
          prefix i (omega arith),
          prefix (i + 1) (omega arith),
          are.ordered i before,
        )
        | inr here ↦ omega (
          arith,
          ap (slice_index (starts ++ e ∷ [])) here,
          ap (λ k. slice_index (starts ++ e ∷ []) (k + 1)) here,
          prefix n (omega arith),
          offset_end n starts e are.count,
          are.last,
        )
      ];
    }

-- the offsets without the end of the last lane
pub offsets_less : {n e : ℕ} {starts : List ℕ} → AreOffsets (n + 1) e (starts ++ e ∷ [])
    → AreOffsets n (slice_index starts n) starts
offsets_less {n} {e} {starts} are =
    let count : length starts ≡ n + 1 = omega (
      arith,
      length-append starts (e ∷ []),
      are.count,
    ) in
    let prefix = offset_prefix n starts e count in
    record {
      count = count;
      first = omega (arith, prefix 0 (omega arith), are.first);
      last = refl;
      ordered = λ i lt. omega (
        arith,
        prefix i (omega arith),
        prefix (i + 1) (omega arith),
        are.ordered i (omega arith),
      );
    }
