-- The triplets of a matrix by rows are the places of its plain matrix, row by row.
use Rattle.std.proofs.Common.{◌≡◌, ℕ, zero, suc, ◌+◌, ◌<◌, ◌⊎◌, inl, inr, ◌↔◌, Bool, true, false}
use Rattle.std.proofs.Common.{List, [], ◌∷◌, ◌++◌, length, get_or, map, slice_index, slice_range}
use Rattle.std.proofs.Common.{ap, sym, subst, ◌∙◌, refl, arith, length-append}
use Rattle.std.specs.Prelude.{if◌then◌else◌}
use Rattle.std.specs.List.{flat_map}
use Rattle.std.proofs.lemmas.List.{map-append, append-nil, append_assoc}
use Rattle.std.proofs.lemmas.List.Concat.{flat_map-append}
use Rattle.std.proofs.lemmas.Grind.{common_steps}
use Rattle.sparse_algebra.proofs.Cases.{lt_add_one_cases}
use Rattle.sparse_algebra.specs.Algebra.{CommRing}
use Rattle.sparse_algebra.specs.Plain.{below, row_order}
use Rattle.sparse_pattern.specs.Raw.{Raw, lane_of, IsValid, IsEntry, entries_from, entries_of}
use Rattle.sparse_pattern.specs.Raw.{paired}
use Rattle.sparse_pattern.proofs.SameEntries.{Has, Rises, rising_same, has_from_entry}
use Rattle.sparse_pattern.proofs.SameEntries.{entry_from_has}
use Rattle.sparse_pattern.proofs.PatternLanes.{lane_rises}
use Rattle.sparse_pattern.proofs.LaneOrder.{length-entries}
use Rattle.sparse_compressed.specs.Compressed.{Compressed, IsSound, zip_values, lane_triplets}
use Rattle.sparse_compressed.specs.PlainOfLanes.{meant, plain_of_rows}
use Rattle.sparse_pattern.proofs.OffsetsInLanes.{lane_of_offset}
use Rattle.sparse_compressed.proofs.Arrays.{has_is_place, value_at_offset, entry_at}

-- ---- the numbers below n that pass a test

abbrev passing : ℕ → (ℕ → Bool) → List ℕ
passing zero test = []
passing (suc n) test = passing n test ++ (if test n then n ∷ [] else [])

-- joining a list of one or no element for each number below n
passing_is : {X : Type 0} (n : ℕ) (test : ℕ → Bool) (f : ℕ → X)
    → flat_map (λ j. if test j then f j ∷ [] else []) (below n) ≡ map f (passing n test)
passing_is zero test f = refl
passing_is (suc n) test f =
    flat_map-append (λ j. if test j then f j ∷ [] else []) (below n) (n ∷ [])
    ∙ ap (λ l. l ++ ((if test n then f n ∷ [] else []) ++ [])) (passing_is n test f)
    ∙ ap (λ l. map f (passing n test) ++ l) (last (test n))
    ∙ sym (map-append f (passing n test) (if test n then n ∷ [] else []))
  where
    last : (b : Bool) → (if b then f n ∷ [] else []) ++ [] ≡ map f (if b then n ∷ [] else [])
    last true = refl
    last false = refl

has_left : (xs ys : List ℕ) (x : ℕ) → Has xs x → Has (xs ++ ys) x
has_left xs ys x h = record {
  at = h.at;
  within = omega (arith, length-append xs ys, h.within);
  is =
      grind (arith, common_steps, h.within, h.is);
}

has_push : (xs : List ℕ) (x : ℕ) → Has (xs ++ x ∷ []) x
has_push xs x = record {
  at = length xs;
  within = omega (arith, length-append xs (x ∷ []));
  is =
      grind (arith, common_steps);
}

has_push_cases : (xs : List ℕ) (x y : ℕ) → Has (xs ++ x ∷ []) y → Has xs y ⊎ (x ≡ y)
has_push_cases xs x y h =
    elim (lt_add_one_cases h.at (length xs) (omega (arith, length-append xs (x ∷ []), h.within))) [
      | inl lt ↦ inl record { at = h.at; within = lt; is = grind (arith, common_steps, h.is) }
      | inr same ↦ inr (grind (arith, common_steps, h.is))
    ]

rises_push : (xs : List ℕ) (x : ℕ) → Rises xs → ((y : ℕ) → Has xs y → y < x) → Rises (xs ++ x ∷ [])
rises_push xs x rises above a b lt within =
    let first : a < length xs = omega (arith, length-append xs (x ∷ [])) in
    let at : get_or (xs ++ x ∷ []) a 0 ≡ get_or xs a 0 = grind (arith, common_steps) in
    elim (lt_add_one_cases b (length xs) (omega (arith, length-append xs (x ∷ [])))) [
      | inl inside ↦
          let to : get_or (xs ++ x ∷ []) b 0 ≡ get_or xs b 0 = grind (arith, common_steps) in
          omega (arith, rises a b lt inside)
      | inr same ↦
          let to : get_or (xs ++ x ∷ []) b 0 ≡ x = grind (arith, common_steps) in
          omega (arith, above (get_or xs a 0) record { at = a; within = first; is = refl })
    ]

module _ (test : ℕ → Bool) where
  passing_has : (n j : ℕ) → j < n → test j ≡ true → Has (passing n test) j
  passing_has zero j lt pass = absurd (omega arith)
  passing_has (suc n) j lt pass = elim (lt_add_one_cases j n (omega arith)) [
    | inl before ↦ has_left (passing n test) _ j (passing_has n j before pass)
    | inr same ↦ subst (λ k. Has (passing n test ++ (if test n then n ∷ [] else [])) k) (sym same)
        (added (test n) (ap test (sym same) ∙ pass))
  ]
    where
      added : (b : Bool) → b ≡ true → Has (passing n test ++ (if b then n ∷ [] else [])) n
      added true e = has_push (passing n test) n
      added false e = cc

  has_passing : (n j : ℕ) → Has (passing n test) j → (j < n) × (test j ≡ true)
  has_passing zero j h = absurd (omega (arith, h.within))
  has_passing (suc n) j h = elim (cases (test n) refl h) [
    | inl before ↦ let r = has_passing n j before in (omega (arith, r.0), r.1)
    | inr here ↦ (omega (arith, here.0), ap test (sym here.0) ∙ here.1)
  ]
    where
      cases : (b : Bool) → test n ≡ b → Has (passing n test ++ (if b then n ∷ [] else [])) j
          → Has (passing n test) j ⊎ ((n ≡ j) × (test n ≡ true))
      cases true e h = elim (has_push_cases (passing n test) n j h)
          [ inl before ↦ inl before | inr here ↦ inr (here, e) ]
      cases false e h = inl (subst (λ l. Has l j) (append-nil (passing n test)) h)

  rises-passing : (n : ℕ) → Rises (passing n test)
  rises-passing zero = λ a b lt within. absurd (omega arith)
  rises-passing (suc n) = step (rises-passing n) (test n)
    where
      step : Rises (passing n test) → (b : Bool)
          → Rises (passing n test ++ (if b then n ∷ [] else []))
      step before true = rises_push (passing n test) n before (λ y h. (has_passing n y h).0)
      step before false = subst Rises (sym (append-nil (passing n test))) before

-- ---- lanes

module _ (d : Raw) (valid : IsValid d) (test : ℕ → ℕ → Bool)
    (places : (i j : ℕ) → (test i j ≡ true) ↔ IsEntry d i j) where
  lane_is_passing : (i : ℕ) → i < d.major_dim → passing d.minor_dim (test i) ≡ lane_of d i
  lane_is_passing i lane =
      let v = valid.lanes i lane in
      rising_same _ _ (rises-passing (test i) d.minor_dim) (lane_rises d i v)
      (λ j h. has_from_entry d i j v ((places i j).0 (has_passing (test i) d.minor_dim j h).1))
      (λ j h.
      let place = entry_from_has d i j lane v h in
      passing_has (test i) d.minor_dim j (subst (λ k. k < d.minor_dim) place.index
      (v.bounded place.at place.in_lane.from place.in_lane.to)) ((places i j).1 place))

-- the entries of n + 1 lanes are those of n lanes and then those of the last
entries_from-suc : (offsets indices : List ℕ) (i n : ℕ)
    → entries_from offsets indices i (suc n) ≡ entries_from offsets indices i n ++ paired (i + n)
    (slice_range indices (slice_index offsets (i + n)) (slice_index offsets (i + n + 1)))
entries_from-suc offsets indices i zero = append-nil _
    ∙ ap (λ k. paired k (slice_range indices (slice_index offsets k) (slice_index offsets (k + 1))))
    (omega arith)
entries_from-suc offsets indices i (suc n) =
    let prefix = paired i (slice_range indices (slice_index offsets i)
    (slice_index offsets (i + 1))) in
    let at : i + 1 + n ≡ i + suc n = omega arith in
    ap (λ l. prefix ++ l) (entries_from-suc offsets indices (i + 1) n
    ∙ ap (λ k. entries_from offsets indices (i + 1) n ++ paired k
    (slice_range indices (slice_index offsets k) (slice_index offsets (k + 1)))) at)
    ∙ sym (append_assoc prefix (entries_from offsets indices (i + 1) n) _)

entries_from_below : (d : Raw) (n : ℕ)
    → entries_from d.offsets d.indices 0 n ≡ flat_map (λ i. paired i (lane_of d i)) (below n)
entries_from_below d zero = refl
entries_from_below d (suc n) =
    let at : 0 + n ≡ n = omega arith in
    entries_from-suc d.offsets d.indices 0 n
    ∙ ap (λ k. entries_from d.offsets d.indices 0 n ++ paired k (lane_of d k)) at
    ∙ ap (λ l. l ++ paired n (lane_of d n)) (entries_from_below d n)
    ∙ ap (λ l. flat_map (λ i. paired i (lane_of d i)) (below n) ++ l)
    (sym (append-nil (paired n (lane_of d n))))
    ∙ sym (flat_map-append (λ i. paired i (lane_of d i)) (below n) (n ∷ []))

-- ---- lists

flat_map_below-same : {X : Type 0} (n : ℕ) (f g : ℕ → List X) → ((k : ℕ) → k < n → f k ≡ g k)
    → flat_map f (below n) ≡ flat_map g (below n)
flat_map_below-same zero f g h = refl
flat_map_below-same (suc n) f g h =
    flat_map-append f (below n) (n ∷ []) ∙ ap (λ l. l ++ (f n ++ []))
    (flat_map_below-same n f g (λ k lt. h k (omega arith)))
    ∙ ap (λ l. flat_map g (below n) ++ (l ++ [])) (h n (omega arith))
    ∙ sym (flat_map-append g (below n) (n ∷ []))

map-flat_map : {X Y Z : Type 0} (h : Y → Z) (f : X → List Y) (xs : List X)
    → map h (flat_map f xs) ≡ flat_map (λ x. map h (f x)) xs
map-flat_map h f [] = refl
map-flat_map h f (x ∷ xs) = map-append h (f x) (flat_map f xs)
    ∙ ap (λ l. map h (f x) ++ l) (map-flat_map h f xs)

map-paired : {X : Type 0} (h : ℕ × ℕ → X) (i : ℕ) (js : List ℕ)
    → map h (paired i js) ≡ map (λ j. h (i, j)) js
map-paired h i [] = refl
map-paired h i (j ∷ js) = ap (λ l. h (i, j) ∷ l) (map-paired h i js)

module _ {T C : Type 0} (f : T → C) (value : ℕ → ℕ → C) where
  -- if each value represents the value of its pair, the triplets are the pairs with those values
  map-zip_values : (ps : List (ℕ × ℕ)) (vs : List T) → length ps ≡ length vs
      → ((z : T) (k : ℕ) → k < length ps → f (get_or vs k z) ≡ value (get_or ps k (0, 0)).0
      (get_or ps k (0, 0)).1)
      → map {B = ℕ × ℕ × C} (λ t. (t.0, t.1, f t.2)) (zip_values ps vs) ≡ map
      (λ p. (p.0, p.1, value p.0 p.1)) ps
  map-zip_values [] vs e h = refl
  map-zip_values (p ∷ ps) [] e h = absurd (omega arith)
  map-zip_values (p ∷ ps) (v ∷ vs) e h =
      let rest = map-zip_values ps vs (omega arith) (λ z k lt. h z (suc k) (omega arith)) in
      ap (λ c. (p.0, p.1, c) ∷ map {B = ℕ × ℕ × C} (λ t. (t.0, t.1, f t.2)) (zip_values ps vs))
      (h v 0 (omega arith)) ∙ ap (λ l. (p.0, p.1, value p.0 p.1) ∷ l) rest

-- ---- the theorem

module _ (R : CommRing) {T : Type 0} (f : T → R.Carrier) (m : Compressed T)
    (sound : IsSound m) where
  long : length (entries_of m.pattern) ≡ length m.values
  long = length-entries m.pattern sound.valid ∙ sym sound.count

  triplets_are_entries : meant R f (lane_triplets m) ≡ map
      (λ p. (p.0, p.1, (plain_of_rows R f m).value p.0 p.1)) (entries_of m.pattern)
  triplets_are_entries = map-zip_values f (plain_of_rows R f m).value (entries_of m.pattern)
      m.values long (λ z k lt.
      let within : k < length m.pattern.indices =
      omega (arith, length-entries m.pattern sound.valid) in
      let lane = lane_of_offset m.pattern sound.valid k within in
      let at = entry_at m.pattern sound.valid lane.0 k lane.1 in
      sym (value_at_offset R f m.pattern sound.valid m.values sound.count z lane.0
      (slice_index m.pattern.indices k) k (lane.1, refl))
      ∙ ap (λ p. (plain_of_rows R f m).value p.0 p.1) (sym at))

  pub row_order-rows : row_order R (plain_of_rows R f m) ≡ meant R f (lane_triplets m)
  row_order-rows =
      let a = plain_of_rows R f m in
      let d = m.pattern in
      let line : (p : ℕ × ℕ) → ℕ × ℕ × R.Carrier = λ p. (p.0, p.1, a.value p.0 p.1) in
      flat_map_below-same d.major_dim _ (λ i. map line (paired i (lane_of d i))) (λ i lt.
      passing_is d.minor_dim (a.has i) (λ j. (i, j, a.value i j))
      ∙ ap (map (λ j. (i, j, a.value i j))) (lane_is_passing d sound.valid a.has
      (has_is_place R f d sound.valid m.values sound.count) i lt)
      ∙ sym (map-paired line i (lane_of d i)))
      ∙ sym (map-flat_map line (λ i. paired i (lane_of d i)) (below d.major_dim))
      ∙ ap (map line) (sym (entries_from_below d d.major_dim))
      ∙ sym triplets_are_entries
