-- A list that gains the places of a plain matrix in their order.
use Rattle.std.proofs.Common.{◌≡◌, ℕ, ◌<◌, ◌≤◌, ◌+◌, Bool, true, false, [], ◌∷◌, ◌++◌, ap}
use Rattle.std.proofs.Common.{sym, ◌∙◌, refl, arith, inl, inr}
use Rattle.std.specs.Prelude.{nat_eq, ◌&&◌, ◌||◌}
use Rattle.std.specs.List.{list_any}
use Rattle.std.proofs.lemmas.Bool.{and_right}
use Rattle.std.proofs.lemmas.Bool.Decides.{nat_tests, Decides-eqb}
use Rattle.std.proofs.lemmas.List.Folds.{list_any-append}
use Rattle.sparse_algebra.specs.Algebra.{CommRing}
use Rattle.sparse_algebra.specs.Plain.{Plain, is_at, plain_kept, IsProper, IsWithin}
use Rattle.sparse_algebra.specs.Sums.{sum_by, where_true}
use Rattle.sparse_algebra.proofs.PlainLaws.{proper_plain_of_triplets, proper_sum, proper_negation}
use Rattle.sparse_algebra.proofs.PlainLaws.{proper_difference, proper_transpose}
use Rattle.sparse_algebra.proofs.PlainLemmas.{same_plain, proper_product}
use Rattle.sparse_algebra.proofs.RingLemmas.{zero_add}
use Rattle.sparse_algebra.proofs.SumLemmas.{sum_by-append}
use Rattle.sparse_coo_dense.specs.Coo.{Coo, appended}
use Rattle.sparse_coo_dense.specs.CooPlain.{plain_of_coo}
use Rattle.sparse_algebra.proofs.Cases.{true_or_false, and_parts, and_both, or_right, or_false}
use Rattle.reference_models.specs.InnerOperation.{is_before, plain_of_operation, Lists}
use Rattle.reference_models.specs.declared.expressions.operation.Operation.{Operation}
use Rattle.reference_models.specs.declared.expressions.operation.Operation.TheVariants as operation

-- ---- tests of pairs

before_here : (row col : ℕ) → is_before row col row col ≡ false
before_here row col = grind (arith, nat_tests)

before_next : (row col : ℕ) → is_before row (col + 1) row col ≡ true
before_next row col = grind (arith, nat_tests)

before_other : (row col i j : ℕ) → (nat_eq row i && nat_eq col j) ≡ false
    → is_before row col i j ≡ is_before row (col + 1) i j
before_other row col i j other = grind (arith, nat_tests)

before_all : (rows i j : ℕ) → i < rows → is_before rows 0 i j ≡ true
before_all rows i j lt = grind (arith, nat_tests)

and_same : (b s t : Bool) → (b ≡ true → s ≡ t) → (b && s) ≡ (b && t)
and_same true s t h = h refl
and_same false s t h = refl

differ : {X : Type 0} (b : Bool) → b ≡ true → b ≡ false → X
differ b is isnt = absurd cc

at_pair : {X : Type 0} (g : ℕ → ℕ → X) (row col i j : ℕ) → (nat_eq row i && nat_eq col j) ≡ true
    → g i j ≡ g row col
at_pair g row col i j here =
    let both = and_parts (nat_eq row i) (nat_eq col j) here in
    sym (ap (λ k. g k col) ((Decides-eqb row i).0 both.0) ∙ ap (g i)
    ((Decides-eqb col j).0 both.1))

abbrev pub triplet : {T : Type 0} → ℕ → ℕ → T → ℕ × ℕ × T
triplet row col v = (row, col, v)

-- ---- the part of a plain matrix that passes a test

module _ (R : CommRing) where
  kept_same : (p : Plain R) (s t : ℕ → ℕ → Bool)
      → ((i j : ℕ) → p.has i j ≡ true → s i j ≡ t i j) → plain_kept R s p ≡ plain_kept R t p
  kept_same p s t h =
      same_plain (plain_kept R s p) (plain_kept R t p) refl refl both
      (λ i j. ap (λ b. where_true R b (p.value i j)) (both i j))
    where
      both : (i j : ℕ) → (p.has i j && s i j) ≡ (p.has i j && t i j)
      both i j = and_same (p.has i j) (s i j) (t i j) (h i j)

  kept_all : (p : Plain R) (s : ℕ → ℕ → Bool) → IsProper p
      → ((i j : ℕ) → p.has i j ≡ true → s i j ≡ true) → plain_kept R s p ≡ p
  kept_all p s proper h =
      same_plain (plain_kept R s p) p refl refl (λ i j. elim (true_or_false (p.has i j)) [
        | inl is ↦ and_both _ _ is (h i j is) ∙ sym is
        | inr isnt ↦ ap (λ b. b && s i j) isnt ∙ sym isnt
      ])
      (λ i j. elim (true_or_false (p.has i j)) [
        | inl is ↦ ap (λ b. where_true R b (p.value i j)) (and_both _ _ is (h i j is))
        | inr isnt ↦ ap (λ b. where_true R (b && s i j) (p.value i j)) isnt
            ∙ sym (proper i j isnt)
      ])

  module _ {T : Type 0} (f : T → R.Carrier) where
    module _ (m : Coo T) (p : Plain R) (s t : ℕ → ℕ → Bool) (row col : ℕ) (v : T)
        (e : plain_of_coo R f m ≡ plain_kept R s p) (new : s row col ≡ false)
        (done : t row col ≡ true)
        (other : (i j : ℕ) → (nat_eq row i && nat_eq col j) ≡ false → s i j ≡ t i j)
        (place : p.has row col ≡ true) (value : f v ≡ p.value row col) where
      kept_here : (i j : ℕ) → (nat_eq row i && nat_eq col j) ≡ true
          → (p.has i j && t i j) ≡ true
      kept_here i j here =
          and_both _ _ (at_pair p.has row col i j here ∙ place) (at_pair t row col i j here ∙ done)

      places : (i j : ℕ)
          → list_any (is_at i j) (m.triplets ++ triplet row col v ∷ []) ≡ (p.has i j && t i j)
      places i j =
          list_any-append (is_at i j) m.triplets (triplet row col v ∷ [])
          ∙ ap (λ b. b || ((nat_eq row i && nat_eq col j) || false)) (ap (λ a. a.has i j) e)
          ∙ elim (true_or_false (nat_eq row i && nat_eq col j)) [
            | inl here ↦ ap (λ b. (p.has i j && s i j) || (b || false)) here
                ∙ or_right (p.has i j && s i j) true refl ∙ sym (kept_here i j here)
            | inr off ↦ ap (λ b. (p.has i j && s i j) || (b || false)) off
                ∙ or_false (p.has i j && s i j) ∙ ap (λ b. p.has i j && b) (other i j off)
          ]

      values : (i j : ℕ)
          → sum_by R (λ t. where_true R (is_at i j t) (f t.2))
          (m.triplets ++ triplet row col v ∷ [])
          ≡ where_true R (p.has i j && t i j) (p.value i j)
      values i j =
          sum_by-append R (λ t. where_true R (is_at i j t) (f t.2)) m.triplets
          (triplet row col v ∷ [])
          ∙ ap (λ c. R.add c (R.add (where_true R (nat_eq row i && nat_eq col j) (f v)) R.zero))
          (ap (λ a. a.value i j) e)
          ∙ elim (true_or_false (nat_eq row i && nat_eq col j)) [
            | inl here ↦
                ap (λ b. R.add (where_true R (p.has i j && s i j) (p.value i j))
                (R.add (where_true R b (f v)) R.zero)) here
                ∙ ap (λ b. R.add (where_true R b (p.value i j)) (R.add (f v) R.zero))
                (and_right (p.has i j) (s i j) (at_pair s row col i j here ∙ new))
                ∙ zero_add R (R.add (f v) R.zero) ∙ R.laws.add_zero (f v) ∙ value
                ∙ sym (at_pair p.value row col i j here)
                ∙ sym (ap (λ b. where_true R b (p.value i j)) (kept_here i j here))
            | inr off ↦
                ap (λ b. R.add (where_true R (p.has i j && s i j) (p.value i j))
                (R.add (where_true R b (f v)) R.zero)) off
                ∙ ap (R.add (where_true R (p.has i j && s i j) (p.value i j)))
                (R.laws.add_zero R.zero)
                ∙ R.laws.add_zero (where_true R (p.has i j && s i j) (p.value i j))
                ∙ ap (λ b. where_true R (p.has i j && b) (p.value i j)) (other i j off)
          ]

      one_more : plain_of_coo R f (appended m (triplet row col v ∷ [])) ≡ plain_kept R t p
      one_more =
          same_plain (plain_of_coo R f (appended m (triplet row col v ∷ []))) (plain_kept R t p)
          (ap (λ a. a.rows) e) (ap (λ a. a.cols) e) places values

    -- ---- in the form that the loops use

    pub lists_more : (p : Plain R) (m after : Coo T) (row col : ℕ) (v : T)
        → after ≡ appended m (triplet row col v ∷ []) → Lists R f p row col m
        → p.has row col ≡ true → f v ≡ p.value row col → Lists R f p row (col + 1) after
    lists_more p m after row col v is e place value =
        ap (plain_of_coo R f) is
        ∙ one_more m p (is_before row col) (is_before row (col + 1)) row col v e
        (before_here row col) (before_next row col) (before_other row col) place value

    pub lists_skipped : (p : Plain R) (m : Coo T) (row col : ℕ) → Lists R f p row col m
        → p.has row col ≡ false → Lists R f p row (col + 1) m
    lists_skipped p m row col e isnt =
        e ∙ kept_same p (is_before row col) (is_before row (col + 1)) (λ i j is.
        elim (true_or_false (nat_eq row i && nat_eq col j)) [
          | inl here ↦ differ (p.has row col) (sym (at_pair p.has row col i j here) ∙ is) isnt
          | inr off ↦ before_other row col i j off
        ])

    pub lists_all : (p : Plain R) (m : Coo T) (rows : ℕ) → IsProper p → IsWithin p
        → p.rows ≤ rows → Lists R f p rows 0 m → plain_of_coo R f m ≡ p
    lists_all p m rows proper within le e =
        e ∙ kept_all p (is_before rows 0) proper
        (λ i j is. before_all rows i j (omega (arith, (within i j is).0, le)))

    proper : (m : Coo T) → IsProper (plain_of_coo R f m)
    proper m = proper_plain_of_triplets R f m.nrows m.ncols m.triplets

    pub proper_operation : (o : Operation T) → IsProper (plain_of_operation R f o)
    proper_operation (operation.Entries a) = proper a.now
    proper_operation (operation.Sum a b) =
        proper_sum R (plain_of_coo R f a.now) (plain_of_coo R f b.now)
        (proper a.now) (proper b.now)
    proper_operation (operation.Difference a b) =
        proper_difference R (plain_of_coo R f a.now) (plain_of_coo R f b.now)
        (proper a.now) (proper b.now)
    proper_operation (operation.Product a b) =
        proper_product R (plain_of_coo R f a.now) (plain_of_coo R f b.now)
        (proper a.now) (proper b.now)
    proper_operation (operation.Transpose a) =
        proper_transpose R (plain_of_coo R f a.now) (proper a.now)
    proper_operation (operation.Negation a) =
        proper_negation R (plain_of_coo R f a.now) (proper a.now)
