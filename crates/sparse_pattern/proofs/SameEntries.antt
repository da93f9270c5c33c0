-- Valid patterns with the same shape and the same entries are equal.
use Rattle.std.proofs.Common.{◌≡◌, ℕ, zero, suc, ◌+◌, ◌-◌, ◌<◌, ◌≤◌, ◌⊎◌, inl, inr, ◌↔◌, List, []}
use Rattle.std.proofs.Common.{◌∷◌, length, get_or, ap, subst, sym, ◌∙◌, refl, arith, Bool, true}
use Rattle.std.proofs.Common.{IsTrue, rules}
use Rattle.std.specs.Cmp.{IsEquivalence}
use Rattle.std.specs.Cmp.Rules.{comparing}
use Rattle.std.proofs.lemmas.Slice.Eq.{bytes_eq-Decides}
use Rattle.std.proofs.lemmas.Grind.{same_number_lists}
use Rattle.std.proofs.lemmas.Bool.Decides.{Decides-eqb}
use Rattle.sparse_algebra.proofs.Cases.{lt_or_ge, and_parts}
use Rattle.sparse_pattern.specs.Raw.{Raw, raw_of, raw_eq, start_of, end_of, lane_of, IsValidLane}
use Rattle.sparse_pattern.specs.Raw.{IsValid, IsEntry, HasSameEntries}
use Rattle.sparse_pattern.proofs.PatternLanes.{length-lane, get_or-lane, lane_rises}

-- x is an element of the list
pub record Has (xs : List ℕ) (x : ℕ) : Type 0 where
  pub at : ℕ
  pub within : at < length xs
  pub is : get_or xs at 0 ≡ x

abbrev pub Rises : List ℕ → Type 0
Rises xs = (a b : ℕ) → a < b → b < length xs → get_or xs a 0 < get_or xs b 0

pub has_head : (x : ℕ) (xs : List ℕ) → Has (x ∷ xs) x
has_head x xs = record { at = 0; within = omega arith; is = refl }

pub has_later : (x y : ℕ) (xs : List ℕ) → Has xs y → Has (x ∷ xs) y
has_later x y xs h = record { at = suc h.at; within = omega (arith, h.within); is = h.is }

has_cases_at : (x y : ℕ) (xs : List ℕ) (k : ℕ) → k < length (x ∷ xs) → get_or (x ∷ xs) k 0 ≡ y
    → (x ≡ y) ⊎ Has xs y
has_cases_at x y xs zero lt is = inl is
has_cases_at x y xs (suc k) lt is = inr record { at = k; within = omega arith; is = is }

pub has_cases : (x y : ℕ) (xs : List ℕ) → Has (x ∷ xs) y → (x ≡ y) ⊎ Has xs y
has_cases x y xs h = has_cases_at x y xs h.at h.within h.is

rises_tail : (x : ℕ) (xs : List ℕ) → Rises (x ∷ xs) → Rises xs
rises_tail x xs rises a b lt within = rises (suc a) (suc b) (omega arith) (omega arith)

head_below : (x y : ℕ) (xs : List ℕ) → Rises (x ∷ xs) → Has xs y → x < y
head_below x y xs rises h = subst (λ v. x < v) h.is
    (rises 0 (suc h.at) (omega arith) (omega (arith, h.within)))

-- strictly increasing lists with the same elements are equal
pub rising_same : (xs ys : List ℕ) → Rises xs → Rises ys → ((x : ℕ) → Has xs x → Has ys x)
    → ((x : ℕ) → Has ys x → Has xs x) → xs ≡ ys
rising_same [] [] up vp to from = refl
rising_same [] (y ∷ ys) up vp to from = absurd (omega (arith, (from y (has_head y ys)).within))
rising_same (x ∷ xs) [] up vp to from = absurd (omega (arith, (to x (has_head x xs)).within))
rising_same (x ∷ xs) (y ∷ ys) up vp to from =
    let heads : x ≡ y = elim (has_cases y x ys (to x (has_head x xs))) [
      | inl same ↦ sym same
      | inr later ↦ elim (has_cases x y xs (from y (has_head y ys))) [
        | inl same ↦ same
        | inr after ↦ absurd (omega (arith, head_below y x ys vp later, head_below x y xs up after))
      ]
    ] in
    let to' : (z : ℕ) → Has xs z → Has ys z =
    λ z h. elim (has_cases y z ys (to z (has_later x z xs h))) [
      | inl same ↦ absurd (omega (arith, head_below x z xs up h))
      | inr later ↦ later
    ] in
    let from' : (z : ℕ) → Has ys z → Has xs z =
    λ z h. elim (has_cases x z xs (from z (has_later y z ys h))) [
      | inl same ↦ absurd (omega (arith, head_below y z ys vp h))
      | inr later ↦ later
    ] in
    let tails = rising_same xs ys (rises_tail x xs up) (rises_tail y ys vp) to' from' in
    cc

-- the elements of the lane i are the indices j of its entries (i, j)
pub has_from_entry : (d : Raw) (i j : ℕ) → IsValidLane d i → IsEntry d i j → Has (lane_of d i) j
has_from_entry d i j valid place =
    let n = place.at - start_of d i in
    let inside : n < length (lane_of d i) = omega
    (arith, length-lane d i valid, place.in_lane.from, place.in_lane.to) in
    let back : start_of d i + n ≡ place.at = omega (arith, place.in_lane.from) in
    record { at = n; within = inside; is = get_or-lane d i valid n inside ∙ rw back place.index }

pub entry_from_has : (d : Raw) (i j : ℕ) → i < d.major_dim → IsValidLane d i → Has (lane_of d i) j
    → IsEntry d i j
entry_from_has d i j lane valid h = record {
  at = start_of d i + h.at;
  in_lane = record {
    lane = lane;
    from = omega arith;
    to =
        omega (arith, length-lane d i valid, h.within);
  };
  index = sym (get_or-lane d i valid h.at h.within) ∙ h.is;
}

raw_parts : (a b : Raw) → a.major_dim ≡ b.major_dim → a.minor_dim ≡ b.minor_dim
    → a.offsets ≡ b.offsets → a.indices ≡ b.indices → a ≡ b
raw_parts a b major minor offsets indices = ap (λ m. raw_of m a.minor_dim a.offsets a.indices) major
    ∙ ap (λ m. raw_of b.major_dim m a.offsets a.indices) minor
    ∙ ap (λ o. raw_of b.major_dim b.minor_dim o a.indices) offsets
    ∙ ap (raw_of b.major_dim b.minor_dim b.offsets) indices

raw_equiv : IsEquivalence raw_eq
raw_equiv = search (comparing, rules)

module _ (a b : Raw) (va : IsValid a) (vb : IsValid b) (same : HasSameEntries a b) where
  lanes_same : (i : ℕ) → i < a.major_dim → lane_of a i ≡ lane_of b i
  lanes_same i lane =
      let lane' : i < b.major_dim = omega (arith, same.major_dim) in
      let wa = va.lanes i lane in
      let wb = vb.lanes i lane' in
      rising_same _ _ (lane_rises a i wa) (lane_rises b i wb)
      (λ x h. has_from_entry b i x wb ((same.entries i x).0 (entry_from_has a i x lane wa h)))
      (λ x h. has_from_entry a i x wa ((same.entries i x).1 (entry_from_has b i x lane' wb h)))

  starts_same : (i : ℕ) → i ≤ a.major_dim → start_of a i ≡ start_of b i
  starts_same zero le = va.first ∙ sym vb.first
  starts_same (suc i) le =
      let before = starts_same i (omega arith) in
      let wa = va.lanes i (omega arith) in
      let wb = vb.lanes i (omega (arith, same.major_dim)) in
      let lengths = ap length (lanes_same i (omega arith)) in
      let ends : end_of a i ≡ end_of b i = omega
      (arith, length-lane a i wa, length-lane b i wb, wa.ordered, wb.ordered) in
      let e : i + 1 ≡ suc i = omega arith in
      subst (λ k. get_or a.offsets k 0 ≡ get_or b.offsets k 0) e ends

  offsets_same : a.offsets ≡ b.offsets
  offsets_same = same_number_lists _ _ (omega (arith, va.count, vb.count, same.major_dim))
      (λ k lt. starts_same k (omega (arith, va.count)))

  indices_below : (i : ℕ) → i ≤ a.major_dim → (p : ℕ) → p < start_of a i
      → get_or a.indices p 0 ≡ get_or b.indices p 0
  indices_below zero le p lt = absurd (omega (arith, va.first))
  indices_below (suc i) le p lt = elim (lt_or_ge p (start_of a i)) [
    | inl below ↦ indices_below i (omega arith) p below
    | inr from ↦
        let wa = va.lanes i (omega arith) in
        let wb = vb.lanes i (omega (arith, same.major_dim)) in
        let start = starts_same i (omega arith) in
        let lanes = lanes_same i (omega arith) in
        let e : suc i ≡ i + 1 = omega arith in
        let lt' = rw e at lt in
        let n = p - start_of a i in
        let inside : n < length (lane_of a i) = omega (arith, length-lane a i wa) in
        let inside' : n < length (lane_of b i) = subst (λ l. n < length l) lanes inside in
        let back : start_of a i + n ≡ p = omega arith in
        let back' : start_of b i + n ≡ p = omega arith in
        let left = get_or-lane a i wa n inside in
        let right = get_or-lane b i wb n inside' in
        let left' = rw back at left in
        let right' = rw back' at right in
        sym left' ∙ ap (λ l. get_or l n 0) lanes ∙ right'
  ]

  indices_same : a.indices ≡ b.indices
  indices_same =
      let end = starts_same a.major_dim (omega arith) in
      let last' = rw (sym same.major_dim) at vb.last in
      same_number_lists _ _ (omega (arith, va.last))
      (λ k lt. indices_below a.major_dim (omega arith) k (omega (arith, va.last)))

  pub equal_from_entries : a ≡ b
  equal_from_entries = raw_parts a b same.major_dim same.minor_dim offsets_same indices_same

-- `==` is true if and only if the shapes and the entries are the same
raw_eq-from_same : (a b : Raw) → a ≡ b → raw_eq a b ≡ true
raw_eq-from_same a b same = subst (λ d. raw_eq a d ≡ true) same (raw_equiv.refl a)

same_major : (a b : Raw) → IsValid a → IsValid b → a.offsets ≡ b.offsets
    → a.major_dim ≡ b.major_dim
same_major a b va vb offsets = omega (arith, va.count, vb.count, ap length offsets)

same_from_raw_eq : (a b : Raw) → IsValid a → IsValid b → raw_eq a b ≡ true → a ≡ b
same_from_raw_eq a b va vb is =
    let lists = and_parts _ _ is in
    let front = and_parts _ _ lists.0 in
    let minors = (Decides-eqb a.minor_dim b.minor_dim).0 front.0 in
    let offsets = (bytes_eq-Decides a.offsets b.offsets).0 front.1 in
    let indices = (bytes_eq-Decides a.indices b.indices).0 lists.1 in
    raw_parts a b (same_major a b va vb offsets) minors offsets indices

pub raw_eq-HasSameEntries : (a b : Raw) → IsValid a → IsValid b → (r : Bool) → r ≡ raw_eq a b
    → IsTrue r ↔ HasSameEntries a b
raw_eq-HasSameEntries a b va vb r is = (
  λ yes. subst (HasSameEntries a) (same_from_raw_eq a b va vb (sym is ∙ yes)) record {
    major_dim = refl;
    minor_dim = refl;
    entries = λ i j. (λ h. h, λ h. h);
  },
  λ same. is ∙ raw_eq-from_same a b (equal_from_entries a b va vb same),
)
