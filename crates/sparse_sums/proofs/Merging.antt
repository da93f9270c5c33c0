-- The merge of two strictly increasing lists of indices: each step appends the least index that is left.
use Rattle.std.proofs.Common.{◌≡◌, ℕ, ◌+◌, ◌<◌, ◌≤◌, ◌⊎◌, inl, inr, ◌↔◌, List, []}
use Rattle.std.proofs.Common.{◌∷◌, ◌++◌, length, get_or, take, drop, Contains, append_assoc}
use Rattle.std.proofs.Common.{ap, sym, subst, ◌∙◌, refl, arith, length-drop}
use Rattle.std.specs.List.Sorted.{IsStrictlyIncreasing}
use Rattle.std.proofs.lemmas.List.{append-nil, take_more, get_or-drop, length_push}
use Rattle.std.proofs.lemmas.List.{take-append-drop, get_or_default, get_or-take, length-take-le}
use Rattle.std.proofs.lemmas.List.Kept.{AllPairs-from_increasing}
use Rattle.std.proofs.lemmas.List.Elements.{Contains-append_cases, Contains-append_left}
use Rattle.std.proofs.lemmas.List.Elements.{Contains-append_right}
use Rattle.std.proofs.lemmas.List.Elements.{Contains-push, Contains-push_cases}
use Rattle.sparse_algebra.proofs.Cases.{lt_or_ge}
use Rattle.sparse_pattern.specs.InnerGainedLanes.{GainsLane}
use Rattle.sparse_sums.specs.InnerMerging.{IsMerged, IsMerging}
use Rattle.sparse_sums.proofs.GainedLanes.{gains_lane, gains_next, rising_push}

pub pushed_has : (xs : List ℕ) (x j : ℕ) → Contains (xs ++ x ∷ []) j ↔ (Contains xs j ⊎ (x ≡ j))
pushed_has xs x j = (
  λ h. Contains-push_cases xs x j h,
  λ h. elim h [
    | inl old ↦ Contains-append_left xs (x ∷ []) j old
    | inr same ↦ subst (λ k. Contains (xs ++ x ∷ []) k) same (Contains-push xs x)
  ],
)

-- the elements of a prefix that is longer by one
pub more : (xs : List ℕ) (p x j : ℕ) → p < length xs → x ≡ get_or xs p 0
    → Contains (take (p + 1) xs) j ↔ (Contains (take p xs) j ⊎ (x ≡ j))
more xs p x j lt is =
    let e : take (p + 1) xs ≡ take p xs ++ x ∷ [] = take_more xs p 0 lt
    ∙ ap (λ y. take p xs ++ y ∷ []) (sym is) in
    rw e (pushed_has (take p xs) x j)

-- the element at p of a strictly increasing list is greater than those before it
pub less_than_next : (xs : List ℕ) (p j : ℕ) → IsStrictlyIncreasing xs → p < length xs
    → Contains (take p xs) j → j < get_or xs p 0
less_than_next xs p j rising lt h =
    let before : h.0 < p = omega (arith, h.1, length-take-le p xs (omega arith)) in
    let is : get_or xs h.0 0 ≡ j = get_or_default xs h.0 0 j (omega arith)
    ∙ sym (get_or-take p xs h.0 j before) ∙ h.2 in
    omega (arith, AllPairs-from_increasing xs rising h.0 p 0 before lt, is)

-- ---- a step

-- a step of the merge in one of the lists, from p to p': either x is its element at p, and p' = p + 1, or x is less and
-- p' = p
pub record IsMergeStep (xs : List ℕ) (x p p' : ℕ) : Type 0 where
  pub has : (j : ℕ) → Contains (take p' xs) j → Contains (take p xs) j ⊎ (x ≡ j)
  pub kept : (j : ℕ) → Contains (take p xs) j → Contains (take p' xs) j
  pub later : p' < length xs → x < get_or xs p' 0

pub merge_step-at : (xs : List ℕ) (x p : ℕ) → IsStrictlyIncreasing xs → p < length xs
    → x ≡ get_or xs p 0 → IsMergeStep xs x p (p + 1)
merge_step-at xs x p rising lt is = record {
  has = λ j. (more xs p x j lt is).0;
  kept = λ j h. (more xs p x j lt is).1 (inl h);
  later = λ left. omega (arith, rising p left, is);
}

pub merge_step-before : (xs : List ℕ) (x p : ℕ) → (p < length xs → x < get_or xs p 0)
    → IsMergeStep xs x p p
merge_step-before xs x p before = record {
  has = λ j h. inl h;
  kept = λ j h. h;
  later = before;
}

module _ {a b : List ℕ} {p q p' q' : ℕ} {lane : List ℕ} {x : ℕ} (m : IsMerged a b p q lane)
    (in_a : IsMergeStep a x p p') (in_b : IsMergeStep b x q q') where
  -- appending x, which is the next element of one list or both and less than all that is left
  pub merged_more : ((j : ℕ) → Contains lane j → j < x)
      → Contains (take p' a) x ⊎ Contains (take q' b) x → p + q < p' + q'
      → IsMerged a b p' q' (lane ++ x ∷ [])
  merged_more below taken longer = record {
    rising = rising_push lane x m.rising below;
    holds = λ j. (
      λ h. elim ((pushed_has lane x j).0 h) [
        | inl old ↦ grind (arith, m.holds j, in_a.kept j, in_b.kept j, old)
        | inr same ↦ subst (λ j. Contains (take p' a) j ⊎ Contains (take q' b) j) same taken
      ],
      λ h. grind (arith, pushed_has lane x j, m.holds j, in_a.has j, in_b.has j, h),
    );
    below_a = λ left j h. grind (arith, pushed_has lane x j, below j, in_a.later);
    below_b = λ left j h. grind (arith, pushed_has lane x j, below j, in_b.later);
    long = omega (arith, length_push lane x, m.long, longer);
  }

abbrev pub none_merged : (old a b : List ℕ) → IsMerging old old a b 0 0
none_merged old a b = record {
  lane = [];
  pushed = sym (append-nil old);
  merged = record {
    rising = λ k lt. absurd (omega (arith, lt));
    holds = λ j. (λ h. inl h, λ h. elim h [ inl x ↦ x | inr y ↦ y ]);
    below_a = λ _ j h. absurd (omega (arith, h.1));
    below_b = λ _ j h. absurd (omega (arith, h.1));
    long = omega arith;
  };
}

module _ {old now a b : List ℕ} {p q : ℕ} (m : IsMerging old now a b p q) (x : ℕ) where
  -- appending x to the list that gains the merge
  abbrev pub with_index : {p' q' : ℕ} → IsMerged a b p' q' (m.lane ++ x ∷ [])
      → IsMerging old (now ++ x ∷ []) a b p' q'
  with_index merged = record {
    lane = m.lane ++ x ∷ [];
    pushed = ap (λ l. l ++ x ∷ []) m.pushed ∙ append_assoc old m.lane (x ∷ []);
    merged = merged;
  }

  module _ (ra : IsStrictlyIncreasing a) (rb : IsStrictlyIncreasing b) where
    abbrev pub merging_first : p < length a → x ≡ get_or a p 0 → (q < length b → x < get_or b q 0)
        → IsMerging old (now ++ x ∷ []) a b (p + 1) q
    merging_first lt is before = with_index
        (merged_more m.merged (merge_step-at a x p ra lt is) (merge_step-before b x q before)
        (λ j h. omega (arith, m.merged.below_a lt j h)) (inl ((more a p x x lt is).1 (inr refl)))
        (omega arith))

    abbrev pub merging_second : q < length b → x ≡ get_or b q 0 → (p < length a → x < get_or a p 0)
        → IsMerging old (now ++ x ∷ []) a b p (q + 1)
    merging_second lt is before = with_index
        (merged_more m.merged (merge_step-before a x p before) (merge_step-at b x q rb lt is)
        (λ j h. omega (arith, m.merged.below_b lt j h)) (inr ((more b q x x lt is).1 (inr refl)))
        (omega arith))

    abbrev pub merging_both : p < length a → q < length b → x ≡ get_or a p 0 → x ≡ get_or b q 0
        → IsMerging old (now ++ x ∷ []) a b (p + 1) (q + 1)
    merging_both lt lt' is is' = with_index
        (merged_more m.merged (merge_step-at a x p ra lt is) (merge_step-at b x q rb lt' is')
        (λ j h. omega (arith, m.merged.below_a lt j h)) (inl ((more a p x x lt is).1 (inr refl)))
        (omega arith))

-- ---- the rest of the list that has not ended

-- the elements of a list are those of a prefix and of the rest
parts_have : (xs : List ℕ) (p j : ℕ)
    → Contains xs j ↔ (Contains (take p xs) j ⊎ Contains (drop p xs) j)
parts_have xs p j = (
  λ h. Contains-append_cases (take p xs) (drop p xs) j
      (subst (λ l. Contains l j) (sym (take-append-drop p xs)) h),
  λ h. subst (λ l. Contains l j) (take-append-drop p xs) (elim h [
    | inl front ↦ Contains-append_left (take p xs) (drop p xs) j front
    | inr rest ↦ Contains-append_right (take p xs) (drop p xs) j rest
  ]),
)

module _ (xs : List ℕ) (p : ℕ) (rising : IsStrictlyIncreasing xs) where
  pub rising_rest : IsStrictlyIncreasing (drop p xs)
  rising_rest k lt =
      let e : p + (k + 1) ≡ p + k + 1 = omega arith in
      omega (
        arith,
        get_or-drop p xs k 0,
        get_or-drop p xs (k + 1) 0,
        ap (λ i. get_or xs i 0) e,
        rising (p + k) (omega (arith, lt, length-drop p xs)),
      )

  -- no element of the rest is less than its first one
  pub rest_from : (j : ℕ) → Contains (drop p xs) j → (p < length xs) × (get_or xs p 0 ≤ j)
  rest_from j h =
      let within : p + h.0 < length xs = omega (arith, h.1, length-drop p xs) in
      let is : get_or xs (p + h.0) 0 ≡ j = sym (get_or-drop p xs h.0 0)
      ∙ get_or_default (drop p xs) h.0 0 j h.1 ∙ h.2 in (
        omega arith,
        elim (lt_or_ge 0 h.0) [
          | inl later ↦ omega (
            arith,
            AllPairs-from_increasing xs rising p (p + h.0) 0 (omega arith) within,
            is,
          )
          | inr here ↦
              let e : p + h.0 ≡ p = omega arith in
              omega (arith, is, ap (λ k. get_or xs k 0) e)
        ],
      )

pub both_have : (a b : List ℕ) (p q j : ℕ) → (Contains a j ⊎ Contains b j)
    ↔ (((Contains (take p a) j ⊎ Contains (take q b) j) ⊎ Contains (drop p a) j)
    ⊎ Contains (drop q b) j)
both_have a b p q j = (
  λ h. grind (arith, parts_have a p j, parts_have b q j, h),
  λ h. grind (arith, parts_have a p j, parts_have b q j, h),
)

abbrev pub rest_merged : {old now a b : List ℕ} {p q : ℕ} → IsStrictlyIncreasing a
    → IsStrictlyIncreasing b → (p ≡ length a) ⊎ (q ≡ length b) → IsMerging old now a b p q
    → GainsLane old ((now ++ drop p a) ++ drop q b) (λ j. Contains a j ⊎ Contains b j)
rest_merged {old} {now} {a} {b} {p} {q} ra rb end m =
    let fronts : GainsLane old now (λ j. Contains (take p a) j ⊎ Contains (take q b) j) = record {
      lane = m.lane;
      pushed = m.pushed;
      rising = m.merged.rising;
      holds = m.merged.holds;
    } in
    gains_next
    (gains_next {S = λ j. (Contains (take p a) j ⊎ Contains (take q b) j) ⊎ Contains (drop p a) j}
    fronts (gains_lane now (drop p a) (rising_rest a p ra) (λ j. (λ h. h, λ h. h)))
    (λ i j h rest.
    let from = rest_from a p ra j rest in
    omega (arith, m.merged.below_a from.0 i ((m.merged.holds i).1 h), from.1))
    (λ j. (λ h. h, λ h. h)))
    (gains_lane (now ++ drop p a) (drop q b) (rising_rest b q rb) (λ j. (λ h. h, λ h. h)))
    (λ i j h rest.
    let from = rest_from b q rb j rest in
    elim h [
      | inl h ↦ omega (arith, m.merged.below_b from.0 i ((m.merged.holds i).1 h), from.1)
      | inr h ↦ absurd (omega (arith, end, (rest_from a p ra i h).0, from.0))
    ])
    (both_have a b p q)
