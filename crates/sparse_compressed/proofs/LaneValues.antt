-- The value of a lane at an index, and sums over a lane.
use Rattle.std.proofs.Common.{◌≡◌, ◌≢◌, ℕ, zero, suc, ◌+◌, ◌-◌, ◌<◌, inl, inr, Bool, true, false}
use Rattle.std.proofs.Common.{List, [], ◌∷◌, length, get_or, slice_range, All, Contains, ap}
use Rattle.std.proofs.Common.{sym, subst, ◌∙◌, refl, arith}
use Rattle.std.specs.Prelude.{nat_eq, zip}
use Rattle.std.specs.List.{list_any}
use Rattle.std.proofs.lemmas.Bool.{cases_eq}
use Rattle.std.proofs.lemmas.List.{get_or_default}
use Rattle.std.proofs.lemmas.List.Edits.{length-between, get_or-between}
use Rattle.std.proofs.lemmas.List.Elements.{Contains-get_or}
use Rattle.sparse_algebra.proofs.Cases.{nat_eq_no, true_or_false}
use Rattle.sparse_algebra.specs.Algebra.{CommRing}
use Rattle.sparse_algebra.specs.Sums.{sum_by, sum_below, where_true}
use Rattle.sparse_algebra.specs.Plain.{is_at}
use Rattle.sparse_pattern.specs.Raw.{Raw, start_of, end_of, lane_of, entries_of}
use Rattle.sparse_algebra.proofs.RingLemmas.{zero_add, zero_mul, distrib_right}
use Rattle.sparse_algebra.proofs.SumLemmas.{sum_below-same, sum_below-none, sum_below-add}
use Rattle.sparse_algebra.proofs.SumLemmas.{where_yes, where_no}
use Rattle.sparse_pattern.proofs.PatternLanes.{length-lane, get_or-lane, lane_rises}
use Rattle.sparse_compressed.specs.Compressed.{Compressed, IsSound, zip_values}
use Rattle.sparse_compressed.specs.PlainOfLanes.{plain_of_rows}
use Rattle.sparse_compressed.proofs.Arrays.{value_at-none, value_at_offset, has_is_place}
use Rattle.sparse_compressed.specs.InnerLaneValue.{lane_value}
use Rattle.sparse_pattern.proofs.LaneLists.{lane_has}
use Rattle.sparse_compressed.proofs.AddedLanes.{eq_refl}

module _ (R : CommRing) {T : Type 0} (f : T → R.Carrier) where
  yes : (k j : ℕ) (c : R.Carrier) → k ≡ j → where_true R (nat_eq k j) c ≡ c
  yes k j c e = where_yes R (nat_eq k j) c (rw e (eq_refl j))

  no : (k j : ℕ) (c : R.Carrier) → k ≢ j → where_true R (nat_eq k j) c ≡ R.zero
  no k j c ne = where_no R (nat_eq k j) c (nat_eq_no k j ne)

  -- the value at an index that the lane does not have is zero
  pub lane_value_none : (j : ℕ) (ks : List ℕ) (vs : List T)
      → ((q : ℕ) → q < length ks → get_or ks q 0 ≢ j) → lane_value R f ks vs j ≡ R.zero
  lane_value_none j [] vs none = refl
  lane_value_none j (k ∷ ks) [] none = refl
  lane_value_none j (k ∷ ks) (v ∷ vs) none =
      ap (λ c. R.add c (lane_value R f ks vs j)) (no k j (f v) (none 0 (omega arith)))
      ∙ zero_add R _ ∙ lane_value_none j ks vs (λ q lt. none (suc q) (omega arith))

  -- the value at an index of a strictly increasing lane is the value stored there
  pub lane_value_at : (z : T) (j q : ℕ) (ks : List ℕ) (vs : List T) → length vs ≡ length ks
      → ((r s : ℕ) → r < s → s < length ks → get_or ks r 0 < get_or ks s 0) → q < length ks
      → get_or ks q 0 ≡ j → lane_value R f ks vs j ≡ f (get_or vs q z)
  lane_value_at z j q [] vs long rising lt is = absurd (omega arith)
  lane_value_at z j q (k ∷ ks) [] long rising lt is = absurd (omega arith)
  lane_value_at z j zero (k ∷ ks) (v ∷ vs) long rising lt is =
      ap (λ c. R.add c (lane_value R f ks vs j)) (yes k j (f v) is)
      ∙ ap (R.add (f v)) (lane_value_none j ks vs
      (λ r r_lt e. omega (arith, rising 0 (suc r) (omega arith) (omega (arith, r_lt)), is, e)))
      ∙ R.laws.add_zero (f v)
  lane_value_at z j (suc q) (k ∷ ks) (v ∷ vs) long rising lt is =
      ap (λ c. R.add c (lane_value R f ks vs j)) (no k j (f v)
      (λ e. omega (arith, rising 0 (suc q) (omega arith) lt, is, e))) ∙ zero_add R _
      ∙ lane_value_at z j q ks vs (omega arith)
      (λ r s less within. rising (suc r) (suc s) (omega arith) (omega arith)) (omega arith) is

-- the values of lane i
abbrev pub values_of : {T : Type 0} → Compressed T → ℕ → List T
values_of m i = slice_range m.values (start_of m.pattern i) (end_of m.pattern i)

module _ (R : CommRing) {T : Type 0} (f : T → R.Carrier) (z : T) (m : Compressed T)
    (sound : IsSound m) (i : ℕ) (lane : i < m.pattern.major_dim) where
  d : Raw
  d = m.pattern

  pub length-values : length (values_of m i) ≡ length (lane_of m.pattern i)
  length-values =
      length-between _ _ _ (omega (arith, (sound.valid.lanes i lane).inside, sound.count))
      ∙ sym (length-lane m.pattern i (sound.valid.lanes i lane))

  -- the value of lane i at the index j is the value of the plain matrix at (i, j)
  pub lane_value_is : (j : ℕ)
      → lane_value R f (lane_of m.pattern i) (values_of m i) j ≡ (plain_of_rows R f m).value i j
  lane_value_is j =
      elim (true_or_false (list_any (is_at i j) (zip_values (entries_of m.pattern) m.values))) [
        | inl hit ↦
            let place = (has_is_place R f m.pattern sound.valid m.values sound.count i j).0 hit in
            let valid = sound.valid.lanes i lane in
            let q = place.at - start_of m.pattern i in
            let within : q < length (lane_of m.pattern i) =
            omega (arith, length-lane m.pattern i valid, place.in_lane.from, place.in_lane.to) in
            let back : start_of m.pattern i + q ≡ place.at = omega (arith, place.in_lane.from) in
            let there : get_or (lane_of m.pattern i) q 0 ≡ j =
            get_or-lane m.pattern i valid q within
            ∙ ap (λ p. get_or m.pattern.indices p 0) back ∙ place.index in
            let value : get_or (values_of m i) q z ≡ get_or m.values place.at z =
            get_or-between m.values (start_of m.pattern i) (end_of m.pattern i) q z
            (omega (arith, place.in_lane.to)) ∙ ap (λ p. get_or m.values p z) back in
            lane_value_at R f z j q (lane_of m.pattern i) (values_of m i) length-values
            (lane_rises m.pattern i valid) within there ∙ ap f value
            ∙ sym (value_at_offset R f m.pattern sound.valid m.values sound.count z i j place.at
            (place.in_lane, place.index))
        | inr miss ↦
            let none : (q : ℕ) → q < length (lane_of m.pattern i)
            → get_or (lane_of m.pattern i) q 0 ≢ j = λ q lt e.
            let place = (lane_has m.pattern sound.valid i j lane).0
            (subst (λ j. Contains (lane_of m.pattern i) j) e
            (Contains-get_or (lane_of m.pattern i) q 0 lt)) in
            let hit = (has_is_place R f m.pattern sound.valid m.values sound.count i j).1 place in
            cc in
            lane_value_none R f j (lane_of m.pattern i) (values_of m i) none
            ∙ sym (value_at-none R f i j (zip_values (entries_of m.pattern) m.values) miss)
      ]

module _ (R : CommRing) {T : Type 0} (f : T → R.Carrier) where
  pick : (n k : ℕ) (h : ℕ → R.Carrier) → k < n
      → sum_below R n (λ l. where_true R (nat_eq k l) (h l)) ≡ h k
  pick zero k h lt = absurd (omega arith)
  pick (suc n) k h lt = elim (cases_eq k n) [
    | inl same ↦
        ap (λ c. R.add c (where_true R (nat_eq k n) (h n)))
        (sum_below-none R n _ (λ l l_lt. no R f k l (h l) (omega arith))) ∙ zero_add R _
        ∙ yes R f k n (h n) same ∙ ap h (sym same)
    | inr differs ↦ ap (R.add (sum_below R n (λ l. where_true R (nat_eq k l) (h l))))
        (no R f k n (h n) differs) ∙ R.laws.add_zero _ ∙ pick n k h (omega arith)
  ]

  scaled : (b : Bool) (c x : R.Carrier) → R.mul (where_true R b c) x ≡ where_true R b (R.mul c x)
  scaled true c x = refl
  scaled false c x = zero_mul R x

  -- a dot product over all k < n is the sum over the entries of the lane
  pub product_by_lane : (n : ℕ) (g : ℕ → R.Carrier) (ks : List ℕ) (vs : List T)
      → All (λ k. k < n) ks
      → sum_below R n (λ k. R.mul (lane_value R f ks vs k) (g k)) ≡ sum_by R
      (λ t. R.mul (f t.1) (g t.0)) (zip ks vs)
  product_by_lane n g [] vs within = sum_below-none R n _ (λ k _. zero_mul R (g k))
  product_by_lane n g (k ∷ ks) [] within = sum_below-none R n _ (λ k _. zero_mul R (g k))
  product_by_lane n g (k ∷ ks) (v ∷ vs) within =
      sum_below-same R n _ (λ l. R.add (where_true R (nat_eq k l) (R.mul (f v) (g l)))
      (R.mul (lane_value R f ks vs l) (g l)))
      (λ l _. distrib_right R (where_true R (nat_eq k l) (f v)) (lane_value R f ks vs l) (g l)
      ∙ ap (λ c. R.add c (R.mul (lane_value R f ks vs l) (g l)))
      (scaled (nat_eq k l) (f v) (g l)))
      ∙ sum_below-add R n (λ l. where_true R (nat_eq k l) (R.mul (f v) (g l)))
      (λ l. R.mul (lane_value R f ks vs l) (g l))
      ∙ ap (λ c. R.add c (sum_below R n (λ l. R.mul (lane_value R f ks vs l) (g l))))
      (pick n k (λ l. R.mul (f v) (g l)) (within 0 0 (omega arith)))
      ∙ ap (R.add (R.mul (f v) (g k))) (product_by_lane n g ks vs
      (λ q d lt. within (suc q) d (omega arith)))

module _ (R : CommRing) {T : Type 0} (f : T → R.Carrier) (z : T) where
  -- the sum over the entries of row i is the dot product over all columns
  pub row_sum : (a : Compressed T) → IsSound a → (i : ℕ) → i < a.pattern.major_dim
      → (b : ℕ → R.Carrier)
      → sum_by R (λ t. R.mul (f t.1) (b t.0)) (zip (lane_of a.pattern i) (values_of a i))
      ≡ sum_below R a.pattern.minor_dim (λ k. R.mul ((plain_of_rows R f a).value i k) (b k))
  row_sum a sound i lane b =
      let within : All (λ k. k < a.pattern.minor_dim) (lane_of a.pattern i) =
      λ q d lt. rw (get_or_default (lane_of a.pattern i) q d 0 lt)
      (lane_within a sound i lane q lt) in
      sym (product_by_lane R f a.pattern.minor_dim b (lane_of a.pattern i) (values_of a i) within)
      ∙ sum_below-same R a.pattern.minor_dim _ _
      (λ k _. ap (λ x. R.mul x (b k)) (lane_value_is R f z a sound i lane k))
    where
      lane_within : (a : Compressed T) → IsSound a → (i : ℕ) → i < a.pattern.major_dim → (q : ℕ)
          → q < length (lane_of a.pattern i)
          → get_or (lane_of a.pattern i) q 0 < a.pattern.minor_dim
      lane_within a sound i lane q lt =
          let valid = sound.valid.lanes i lane in
          rw (get_or-lane a.pattern i valid q lt) (valid.bounded (start_of a.pattern i + q)
          (omega arith) (omega (arith, length-lane a.pattern i valid)))
