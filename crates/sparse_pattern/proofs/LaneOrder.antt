-- The list of entries in lane order contains each entry of the pattern, and nothing else.
use Rattle.std.proofs.Common.{◌≡◌, ℕ, zero, suc, ◌+◌, ◌≤◌, ◌⊎◌, inl, inr, ◌↔◌, List, [], ◌∷◌}
use Rattle.std.proofs.Common.{length, slice_index, Contains, ap, subst, arith}
use Rattle.std.proofs.Common.{length-append}
use Rattle.std.proofs.lemmas.List.{length-map}
use Rattle.std.proofs.lemmas.List.Elements.{Contains-append_left, Contains-append_right}
use Rattle.std.proofs.lemmas.List.Elements.{Contains-append_cases}
use Rattle.sparse_algebra.proofs.Cases.{le_cases}
use Rattle.sparse_pattern.specs.Raw.{Raw, start_of, lane_of, IsValid, IsEntry, entries_from}
use Rattle.sparse_pattern.specs.Raw.{entries_of, paired}
use Rattle.sparse_pattern.proofs.PatternLanes.{length-lane}
use Rattle.sparse_pattern.proofs.SameEntries.{Has, has_head, has_later, has_cases, has_from_entry}
use Rattle.sparse_pattern.proofs.SameEntries.{entry_from_has}

pub length-paired : (i : ℕ) (js : List ℕ) → length (paired i js) ≡ length js
length-paired i js = length-map js (λ j. (i, j))

module _ (d : Raw) (valid : IsValid d) where
  length-entries_from : (i n : ℕ) → i + n ≡ d.major_dim
      → length (entries_from d.offsets d.indices i n) + start_of d i ≡ length d.indices
  length-entries_from i zero e =
      let here : i ≡ d.major_dim = omega arith in
      let last = valid.last in
      let end = ap (λ k. slice_index d.offsets k) here in
      omega arith
  length-entries_from i (suc n) e =
      let lane = valid.lanes i (omega arith) in
      let rest = length-entries_from (i + 1) n (omega arith) in
      let front = length-lane d i lane in
      let mapped : length (paired i (lane_of d i)) ≡ length (lane_of d i) =
      length-paired i (lane_of d i) in
      omega (
        arith,
        length-append (paired i (lane_of d i))
            (entries_from d.offsets d.indices (i + 1) n),
        lane.ordered,
      )

  pub length-entries : length (entries_of d) ≡ length d.indices
  length-entries = omega (arith, length-entries_from 0 d.major_dim (omega arith), valid.first)

contains_map : (i j : ℕ) (xs : List ℕ) → Has xs j → Contains (paired i xs) (i, j)
contains_map i j [] h = absurd (omega (arith, h.within))
contains_map i j (x ∷ xs) h = elim (has_cases x j xs h) [
  | inl same ↦ (0, omega arith, ap (λ j. (i, j)) same)
  | inr later ↦ Contains-append_right ((i, x) ∷ []) (paired i xs) (i, j) (contains_map i j xs later)
]

pub contains_cases : {X : Type 0} (x y : X) (xs : List X) → Contains (x ∷ xs) y
    → (x ≡ y) ⊎ Contains xs y
contains_cases x y xs (zero, lt, is) = inl is
contains_cases x y xs (suc k, lt, is) = inr (k, omega arith, is)

has_from_map : (i j i' : ℕ) (xs : List ℕ) → Contains (paired i' xs) (i, j) → (i' ≡ i) × Has xs j
has_from_map i j i' [] h = absurd (omega (arith, h.1))
has_from_map i j i' (x ∷ xs) h = elim (contains_cases (i', x) (i, j) (paired i' xs) h) [
  | inl same ↦ (
    ap (λ p. p.0) same,
    subst (λ y. Has (x ∷ xs) y) (ap (λ p. p.1) same)
        (has_head x xs),
  )
  | inr later ↦ let r = has_from_map i j i' xs later in (r.0, has_later x j xs r.1)
]

module _ (d : Raw) (valid : IsValid d) (i j : ℕ) where
  entry_from_contains : (k n : ℕ) → k + n ≡ d.major_dim
      → Contains (entries_from d.offsets d.indices k n) (i, j) → IsEntry d i j
  entry_from_contains k zero e h = absurd (omega (arith, h.1))
  entry_from_contains k (suc n) e h = elim (Contains-append_cases (paired k (lane_of d k))
      (entries_from d.offsets d.indices (k + 1) n) (i, j) h) [
        | inl here ↦
            let r = has_from_map i j k (lane_of d k) here in
            subst (λ l. IsEntry d l j) r.0 (entry_from_has d k j (omega arith)
            (valid.lanes k (omega arith)) r.1)
        | inr later ↦ entry_from_contains (k + 1) n (omega arith) later
      ]

  contains_from_entry : IsEntry d i j → (k n : ℕ) → k ≤ i → k + n ≡ d.major_dim
      → Contains (entries_from d.offsets d.indices k n) (i, j)
  contains_from_entry place k zero le e = absurd (omega (arith, place.in_lane.lane))
  contains_from_entry place k (suc n) le e = elim (le_cases k i le) [
    | inl lt ↦ Contains-append_right (paired k (lane_of d k))
        (entries_from d.offsets d.indices (k + 1) n) (i, j)
        (contains_from_entry place (k + 1) n (omega arith) (omega arith))
    | inr same ↦
        let has = has_from_entry d i j (valid.lanes i place.in_lane.lane) place in
        Contains-append_left (paired k (lane_of d k)) (entries_from d.offsets d.indices (k + 1) n)
        (i, j) (rw same (contains_map i j (lane_of d i) has))
  ]

  pub Contains-entries_of : Contains (entries_of d) (i, j) ↔ IsEntry d i j
  Contains-entries_of = (
    entry_from_contains 0 d.major_dim (omega arith),
    λ place. contains_from_entry place 0 d.major_dim (omega arith) (omega arith),
  )
