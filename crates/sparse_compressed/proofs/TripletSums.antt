-- The sum of the triplets at a pair: zero if there is none, and the value if there is one.
use Rattle.std.proofs.Common.{◌≡◌, ℕ, zero, suc, ◌<◌, inl, inr, ◌↔◌, true, false, ◌&&◌, List}
use Rattle.std.proofs.Common.{[], ◌∷◌, length, get_or, map, Contains, ap, subst, ◌∙◌, refl}
use Rattle.std.proofs.Common.{arith}
use Rattle.std.specs.Prelude.{nat_eq}
use Rattle.std.specs.List.{list_any}
use Rattle.std.proofs.lemmas.Grind.{common_steps}
use Rattle.std.proofs.lemmas.Bool.Decides.{Decides-eqb, nat_tests}
use Rattle.std.proofs.lemmas.List.Elements.{Contains-append_right}
use Rattle.sparse_algebra.proofs.Cases.{and_parts, or_cases, or_left, or_right, true_or_false}
use Rattle.sparse_algebra.specs.Algebra.{CommRing}
use Rattle.sparse_algebra.specs.Sums.{sum_by, where_true}
use Rattle.sparse_algebra.specs.Plain.{is_at}
use Rattle.sparse_algebra.proofs.RingLemmas.{zero_add}
use Rattle.sparse_algebra.proofs.SumLemmas.{where_yes, where_no}
use Rattle.sparse_algebra.proofs.PlainLaws.{proper_plain_of_triplets}
use Rattle.sparse_pattern.proofs.LaneOrder.{contains_cases}
use Rattle.sparse_compressed.specs.Compressed.{zip_values}

pub pair_is : (x : ℕ × ℕ) (i j : ℕ) → (nat_eq x.0 i && nat_eq x.1 j) ≡ true → x ≡ (i, j)
pair_is (a, b) i j h =
    let both = and_parts (nat_eq a i) (nat_eq b j) h in
    let e : a ≡ i = (Decides-eqb a i).0 both.0 in
    let g : b ≡ j = (Decides-eqb b j).0 both.1 in
    cc

pub test_yes : (i j : ℕ) → (nat_eq i i && nat_eq j j) ≡ true
test_yes i j = grind (arith, nat_tests)

-- the pairs (row, column) of triplets
abbrev pub pairs_of : {T : Type 0} → List (ℕ × ℕ × T) → List (ℕ × ℕ)
pairs_of ts = map (λ t. (t.0, t.1)) ts

module _ {T : Type 0} (i j : ℕ) where
  named_forth : (ts : List (ℕ × ℕ × T)) → list_any (is_at i j) ts ≡ true
      → Contains (pairs_of ts) (i, j)
  named_forth [] h = cc
  named_forth (t ∷ ts) h = elim (or_cases (is_at i j t) (list_any (is_at i j) ts) h) [
    | inl hit ↦ (0, omega arith, pair_is (t.0, t.1) i j hit)
    | inr later ↦ Contains-append_right ((t.0, t.1) ∷ []) (pairs_of ts) (i, j)
        (named_forth ts later)
  ]

  named_back : (ts : List (ℕ × ℕ × T)) → Contains (pairs_of ts) (i, j)
      → list_any (is_at i j) ts ≡ true
  named_back [] h = absurd (omega (arith, h.1))
  named_back (t ∷ ts) h = elim (contains_cases (t.0, t.1) (i, j) (pairs_of ts) h) [
    | inl same ↦ or_left (is_at i j t) _
        (rw (ap (λ x. x.0) same, ap (λ x. x.1) same) (test_yes i j))
    | inr later ↦ or_right (is_at i j t) _ (named_back ts later)
  ]

  pub named : (ts : List (ℕ × ℕ × T))
      → (list_any (is_at i j) ts ≡ true) ↔ Contains (pairs_of ts) (i, j)
  named ts = (named_forth ts, named_back ts)

pub pairs_of-triplets : {T : Type 0} (ps : List (ℕ × ℕ)) (vs : List T) → length ps ≡ length vs
    → pairs_of (zip_values ps vs) ≡ ps
pairs_of-triplets [] vs e = refl
pairs_of-triplets (p ∷ ps) [] e = absurd (omega arith)
pairs_of-triplets ((a, b) ∷ ps) (v ∷ vs) e =
    ap (λ l. (a, b) ∷ l) (pairs_of-triplets ps vs (omega arith))

module _ (R : CommRing) {T : Type 0} (f : T → R.Carrier) where
  abbrev pub value_at : List (ℕ × ℕ × T) → ℕ → ℕ → R.Carrier
  value_at ts i j = sum_by R (λ t. where_true R (is_at i j t) (f t.2)) ts

  -- the sum is zero if no triplet is at the pair
  pub value_at-none : (i j : ℕ) (ts : List (ℕ × ℕ × T)) → list_any (is_at i j) ts ≡ false
      → value_at ts i j ≡ R.zero
  value_at-none i j ts = proper_plain_of_triplets R f 0 0 ts i j

  -- the sum is the value of the triplet if only one is at the pair
  pub value_at-one : (i j p : ℕ) (z : T) (ps : List (ℕ × ℕ)) (vs : List T) → length ps ≡ length vs
      → p < length ps → get_or ps p (0, 0) ≡ (i, j)
      → ((q : ℕ) → q < length ps → get_or ps q (0, 0) ≡ (i, j) → q ≡ p)
      → value_at (zip_values ps vs) i j ≡ f (get_or vs p z)
  value_at-one i j p z [] vs e lt is only = absurd (omega arith)
  value_at-one i j p z (x ∷ ps) [] e lt is only = absurd (omega arith)
  value_at-one i j zero z (x ∷ ps) (v ∷ vs) e lt is only =
      let e' : length ps ≡ length vs = omega arith in
      let hit : is_at i j (x.0, x.1, v) ≡ true = rw (ap (λ y. y.0) is, ap (λ y. y.1) is)
      (test_yes i j) in
      let none : list_any (is_at i j) (zip_values ps vs) ≡ false =
      elim (true_or_false (list_any (is_at i j) (zip_values ps vs))) [
        | inl some ↦
            let at = subst (λ l. Contains l (i, j)) (pairs_of-triplets ps vs e')
            ((named i j (zip_values ps vs)).0 some) in
            let read : get_or ps at.0 (0, 0) ≡ (i, j) = grind (arith, common_steps, at.1, at.2) in
            absurd (omega (arith, only (suc at.0) (omega (arith, at.1)) read))
        | inr miss ↦ miss
      ] in
      ap (λ c. R.add c (value_at (zip_values ps vs) i j))
      (where_yes R (is_at i j (x.0, x.1, v)) (f v) hit)
      ∙ ap (R.add (f v)) (value_at-none i j (zip_values ps vs) none) ∙ R.laws.add_zero (f v)
  value_at-one i j (suc p) z (x ∷ ps) (v ∷ vs) e lt is only =
      let miss : is_at i j (x.0, x.1, v) ≡ false = elim (true_or_false (is_at i j (x.0, x.1, v))) [
        | inl hit ↦ absurd (omega (arith, only 0 (omega arith) (pair_is x i j hit)))
        | inr miss ↦ miss
      ] in
      ap (λ c. R.add c (value_at (zip_values ps vs) i j))
      (where_no R (is_at i j (x.0, x.1, v)) (f v) miss) ∙ zero_add R _
      ∙ value_at-one i j p z ps vs (omega arith) (omega arith) is
      (λ q l h. omega (arith, only (suc q) (omega arith) h))
