-- Runs of a list: their elements, and the same runs after elements are appended to the list.
use Rattle.std.proofs.Common.{◌≡◌, ℕ, zero, suc, ◌+◌, ◌-◌, ◌<◌, ◌≤◌}
use Rattle.std.proofs.Common.{inl, inr, ◌↔◌, List, [], ◌∷◌, ◌++◌}
use Rattle.std.proofs.Common.{length, get_or, append_assoc}
use Rattle.std.proofs.Common.{slice_range, Contains, length-append, ap, sym, ◌∙◌}
use Rattle.std.proofs.Common.{arith}
use Rattle.std.specs.List.Sorted.{IsStrictlyIncreasing}
use Rattle.std.proofs.Math.Nat.{eq-or-lt_of_le}
use Rattle.std.proofs.lemmas.Grind.{common_steps}
use Rattle.std.proofs.lemmas.List.{get_or_append_left}
use Rattle.std.proofs.lemmas.List.{get_or_default}
use Rattle.std.proofs.lemmas.List.Edits.{length-between, between_more}
use Rattle.sparse_pattern.specs.Raw.{Raw, start_of, end_of, IsEntry, IsValidLane}
use Rattle.sparse_pattern.proofs.LaneLists.{has_from_contains, contains_from_has}
use Rattle.sparse_pattern.proofs.PatternLanes.{rises_at}
use Rattle.sparse_factor.specs.InnerColumns.{IsRun, IsInRun}

pub none_in : (x : ℕ) → Contains [] x → ⊥
none_in x h = omega (arith, h.1)

module _ {xs : List ℕ} {low high : ℕ} (run : IsRun xs low high) where
  pub length-run : length (slice_range xs low high) ≡ high - low
  length-run = length-between xs low high run.inside

  get_or-run : (k : ℕ) → k < length (slice_range xs low high)
      → get_or (slice_range xs low high) k 0 ≡ get_or xs (low + k) 0
  get_or-run k lt =
      let room : k < high - low = omega (arith, length-run) in
      grind (arith, common_steps, room)

  pub rising_run : IsStrictlyIncreasing (slice_range xs low high)
  rising_run k lt =
      rw (get_or-run k (omega arith), get_or-run (k + 1) lt)
      (run.rising (low + k) (low + (k + 1)) (omega arith) (omega arith) (omega (arith, length-run)))

  -- the elements of a run, as a list and by their offsets
  pub run_has : (x : ℕ) → Contains (slice_range xs low high) x ↔ IsInRun xs low high x
  run_has x =
      let list = slice_range xs low high in (
        λ h.
            let has = has_from_contains list x h in
            record {
              at = low + has.at;
              from = omega arith;
              to = omega (arith, has.within, length-run);
              is = sym (get_or-run has.at has.within) ∙ has.is;
            },
        λ h.
            let k = h.at - low in
            let within : k < length list = omega (arith, h.from, h.to, length-run) in
            contains_from_has list x record {
              at = k;
              within = within;
              is = grind (arith, get_or-run k within, h.is, h.from);
            },
      )

  pub run_ordered : (p q : ℕ) → low ≤ p → p ≤ q → q < high → get_or xs p 0 ≤ get_or xs q 0
  run_ordered p q from le to = grind (arith, run.rising p q)

  -- a part of a run
  pub run_part : (first last : ℕ) → low ≤ first → first ≤ last → last ≤ high → IsRun xs first last
  run_part first last from ordered to = record {
    ordered = ordered;
    inside = omega (arith, run.inside);
    rising = λ p q p_from lt q_to. run.rising p q (omega arith) lt (omega arith);
  }

  -- a run is the same after elements are appended
  pub number_kept : (ys : List ℕ) (p : ℕ) → p < high → get_or (xs ++ ys) p 0 ≡ get_or xs p 0
  number_kept ys p lt = get_or_append_left xs ys 0 p (omega (arith, run.inside))

  pub run_kept : (ys : List ℕ) → IsRun (xs ++ ys) low high
  run_kept ys = record {
    ordered = run.ordered;
    inside = omega (arith, run.inside, length-append xs ys);
    rising = λ p q from lt to.
        rw (number_kept ys p (omega arith), number_kept ys q to) (run.rising p q from lt to);
  }

  pub slice_kept : (ys : List ℕ) → slice_range (xs ++ ys) low high ≡ slice_range xs low high
  slice_kept ys =
      let inside = run.inside in
      let ordered = run.ordered in
      grind (arith, common_steps)

-- a strictly increasing list is one run
pub rising_at : (xs : List ℕ) → IsStrictlyIncreasing xs → (p q : ℕ) → p < q → q < length xs
    → get_or xs p 0 < get_or xs q 0
rising_at xs rising p zero lt to = absurd (omega arith)
rising_at xs rising p (suc q) lt to = elim (eq-or-lt_of_le {n = p} {m = q} (omega arith)) [
  | inl e ↦ grind (arith, rising q)
  | inr before ↦ grind (arith, rising q, rising_at xs rising p q before (omega arith))
]

pub run_whole : (xs : List ℕ) → IsStrictlyIncreasing xs → IsRun xs 0 (length xs)
run_whole xs rising = record {
  ordered = omega arith;
  inside = omega arith;
  rising = λ p q from. rising_at xs rising p q;
}

-- the indices of a lane are a run
pub lane_run : (d : Raw) (k : ℕ) → IsValidLane d k → IsRun d.indices (start_of d k) (end_of d k)
lane_run d k lane = record {
  ordered = lane.ordered;
  inside = lane.inside;
  rising = rises_at d k lane;
}

pub lane_entry : (d : Raw) (k i : ℕ) → k < d.major_dim
    → IsInRun d.indices (start_of d k) (end_of d k) i ↔ IsEntry d k i
lane_entry d k i lt = (
  λ h. record {
    at = h.at;
    in_lane = record { lane = lt; from = h.from; to = h.to };
    index = h.is;
  },
  λ h. record { at = h.at; from = h.in_lane.from; to = h.in_lane.to; is = h.index },
)

-- ---- a run that is appended to its list

module _ (xs : List ℕ) (from at : ℕ) {now : List ℕ} (inside : at < length xs)
    (is : now ≡ xs ++ slice_range xs from at) where
  copied_within : at < length now
  copied_within = omega (arith, ap length is, length-append xs (slice_range xs from at), inside)

  -- the element that is copied next, as it is read
  pub copied_number : {row : ℕ} → row ≡ get_or now at row → row ≡ get_or xs at 0
  copied_number {row} read = read ∙ get_or_default now at row 0 copied_within
      ∙ ap (λ l. get_or l at 0) is ∙ get_or_append_left xs (slice_range xs from at) 0 at inside

  pub copied_more : {row : ℕ} → from ≤ at → row ≡ get_or now at row
      → now ++ row ∷ [] ≡ xs ++ slice_range xs from (at + 1)
  copied_more {row} after read =
      ap (λ l. l ++ row ∷ []) is
      ∙ append_assoc xs (slice_range xs from at) (row ∷ [])
      ∙ ap (λ r. xs ++ (slice_range xs from at ++ r ∷ [])) (copied_number read)
      ∙ ap (λ l. xs ++ l) (sym (between_more xs from at 0 after inside))
