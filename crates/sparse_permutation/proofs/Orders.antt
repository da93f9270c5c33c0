-- Permutations as lists: their values, inverses and compositions.
use Rattle.std.proofs.Common.{◌≡◌, ℕ, zero, suc, ◌<◌, inl, inr, List, [], ◌∷◌, ◌++◌, length, map}
use Rattle.std.proofs.Common.{get_or, sym, ap, ◌∙◌, refl, arith}
use Rattle.std.specs.Prelude.{nat_eq, if◌then◌else◌}
use Rattle.std.proofs.lemmas.Bool.{cases_eq}
use Rattle.std.proofs.lemmas.Bool.Decides.{Decides-eqb, nat_tests}
use Rattle.std.proofs.lemmas.List.{get_or-map, get_or_default, length-append, length-map, same_lists}
use Rattle.std.proofs.Math.ListN.{get_or-append}
use Rattle.std.proofs.Math.Seq.{get_or-append_seam}
use Rattle.sparse_algebra.specs.Plain.{below}
use Rattle.sparse_algebra.proofs.Cases.{lt_suc_cases, true_or_false}
use Rattle.sparse_permutation.specs.Permutations.{IsOrder, IsInverse, composed}
use Rattle.sparse_permutation.proofs.Pigeonhole.{each_is_value}

module _ {p : List ℕ} (order : IsOrder p) where
  pub order_below : (k : ℕ) → k < length p → get_or p k 0 < length p
  order_below k less = (order k less).below

  -- an index occurs once
  pub order_once : (k l : ℕ) → k < length p → l < length p → get_or p k 0 ≡ get_or p l 0 → k ≡ l
  order_once k l first second same = elim (cases_eq k l) [
    | inl e ↦ e
    | inr other ↦ absurd (grind (arith, (order l second).new k, (order k first).new l))
  ]

  -- each number below the length occurs
  pub order_occurs : (i : ℕ) → i < length p → (k : ℕ) × (k < length p) × (get_or p k 0 ≡ i)
  order_occurs = each_is_value (length p) (λ k. get_or p k 0) record {
    below = order_below;
    apart = λ k l before less. (order l less).new k before;
  }

  -- a list of the same length with k at the index at k is the inverse
  pub is_inverse : (q : List ℕ) → length q ≡ length p
      → ((k : ℕ) → k < length p → get_or q (get_or p k 0) 0 ≡ k) → IsInverse p q
  is_inverse q count left = record {
    count = count;
    left = left;
    right = λ i less.
        let at = order_occurs i less in
        ap (λ x. get_or p x 0) (ap (λ x. get_or q x 0) (sym at.2) ∙ left at.0 at.1) ∙ at.2;
  }

  pub inverse_order : (q : List ℕ) → IsInverse p q → IsOrder q
  inverse_order q inverse i less =
      let inside : i < length p = omega (arith, inverse.count) in
      let at = order_occurs i inside in
      let here : get_or q i 0 ≡ at.0 = ap (λ x. get_or q x 0) (sym at.2)
      ∙ inverse.left at.0 at.1 in
      record {
        below = omega (arith, inverse.count, at.1, here);
        new = λ l before same.
            let back = ap (λ x. get_or p x 0) same in
            omega (arith, sym (inverse.right l (omega arith)) ∙ back ∙ inverse.right i inside);
      }

  pub composed_at : (q : List ℕ) (k : ℕ) → k < length q
      → get_or (composed p q) k 0 ≡ get_or p (get_or q k 0) 0
  composed_at q k less = get_or-map (λ k. get_or p k 0) q k 0 0 less

  pub composed_order : (q : List ℕ) → length p ≡ length q → IsOrder q → IsOrder (composed p q)
  composed_order q same other k less =
      let count = length-map q (λ k. get_or p k 0) in
      let inside : k < length q = omega (arith, count) in
      let at = composed_at q k inside in
      record {
        below = omega (
          arith,
          count,
          at,
          order_below (get_or q k 0) (omega (arith, (other k inside).below)),
        );
        new = λ l before e.
            let first = composed_at q l (omega arith) in
            (other k inside).new l before (order_once (get_or q l 0) (get_or q k 0)
            (omega (arith, (other l (omega arith)).below))
            (omega (arith, (other k inside).below)) (sym first ∙ e ∙ at));
      }

pub length-below : (n : ℕ) → length (below n) ≡ n
length-below zero = refl
length-below (suc n) = omega (arith, length-append (below n) (n ∷ []), length-below n)

pub below_at : (n k : ℕ) → k < n → get_or (below n) k 0 ≡ k
below_at zero k less = absurd (omega arith)
below_at (suc n) k less = elim (lt_suc_cases k n less) [
  | inl before ↦
      get_or-append (below n) (n ∷ []) 0 k (omega (arith, length-below n))
      ∙ below_at n k before
  | inr here ↦
      ap (λ j. get_or (below n ++ n ∷ []) j 0) (here ∙ sym (length-below n))
      ∙ get_or-append_seam (below n) n [] 0
      ∙ sym here
]

pub identity_order : (n : ℕ) → IsOrder (below n)
identity_order n k less =
    let count = length-below n in
    let at = below_at n k (omega (arith, count)) in
    record {
      below = omega (arith, count, at);
      new = λ l before e. omega (arith, below_at n l (omega (arith, count)), at);
    }

-- the inverse of the inverse, and that there is one inverse
pub inverse_back : (p q : List ℕ) → IsInverse p q → IsInverse q p
inverse_back p q inverse = record {
  count = sym inverse.count;
  left = λ i less. inverse.right i (omega (arith, inverse.count));
  right = λ k less. inverse.left k (omega (arith, inverse.count));
}

pub one_inverse : (p q r : List ℕ) → IsOrder p → IsInverse p q → IsInverse p r → q ≡ r
one_inverse p q r order first second =
    same_lists q r (first.count ∙ sym second.count) (λ i z less.
    let inside : i < length p = omega (arith, first.count) in
    let at = order_occurs order i inside in
    let here : get_or q i 0 ≡ at.0 = ap (λ x. get_or q x 0) (sym at.2) ∙ first.left at.0 at.1 in
    let there : get_or r i 0 ≡ at.0 = ap (λ x. get_or r x 0) (sym at.2) ∙ second.left at.0 at.1 in
    get_or_default q i z 0 less ∙ here ∙ sym there
    ∙ get_or_default r i 0 z (omega (arith, second.count)))

-- ---- every permutation has an inverse

-- where i is among the first n indices, and 0 if it is not
index_of : List ℕ → ℕ → ℕ → ℕ
index_of p i zero = 0
index_of p i (suc n) = if nat_eq (get_or p n 0) i then n else index_of p i n

index_of_found : (p : List ℕ) (i n k : ℕ) → k < n → get_or p k 0 ≡ i
    → (get_or p (index_of p i n) 0 ≡ i) × (index_of p i n < n)
unfolding index_of
index_of_found p i zero k less at = absurd (omega arith)
index_of_found p i (suc n) k less at = elim (true_or_false (nat_eq (get_or p n 0) i)) [
  | inl here ↦ rw here ((Decides-eqb (get_or p n 0) i).0 here, omega arith)
  | inr other ↦
      let before : k < n = elim (lt_suc_cases k n less) [
        | inl lt ↦ lt
        | inr same ↦ absurd (grind (arith, nat_tests, ap (λ l. get_or p l 0) same))
      ] in
      let rest = index_of_found p i n k before at in
      rw other (rest.0, omega (arith, rest.1))
]

pub inverse_exists : (p : List ℕ) → IsOrder p → (q : List ℕ) × IsInverse p q × IsOrder q
inverse_exists p order =
    let n = length p in
    let q : List ℕ = map (λ i. index_of p i n) (below n) in
    let count : length q ≡ length p = length-map (below n) (λ i. index_of p i n) ∙ length-below n in
    let inverse : IsInverse p q = is_inverse order q count (λ k less.
    let i = get_or p k 0 in
    let inside : i < n = order_below order k less in
    let found = index_of_found p i n k less refl in
    get_or-map (λ i. index_of p i n) (below n) i 0 0 (omega (arith, length-below n))
    ∙ ap (λ j. index_of p j n) (below_at n i inside)
    ∙ order_once order (index_of p i n) k found.1 less found.0) in
    (q, inverse, inverse_order order q inverse)
