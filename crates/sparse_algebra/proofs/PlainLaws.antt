-- Laws of the algebra of plain matrices.
use Rattle.std.proofs.Common.{◌≡◌, ◌≢◌, ℕ, zero, suc, ◌<◌, inl, inr, Bool, true, false, ◌&&◌}
use Rattle.std.proofs.Common.{ap, sym, ◌∙◌, refl, arith}
use Rattle.std.specs.Prelude.{◌||◌, nat_eq, nat_lt, List, [], ◌∷◌, All}
use Rattle.std.specs.List.{list_any}
use Rattle.std.proofs.Math.Bool.{and_assoc, and-or_distrib_left, and-or_distrib_right}
use Rattle.std.proofs.lemmas.Bool.{and_right}
use Rattle.std.proofs.lemmas.Bool.Decides.{Decides-eqb, Decides-ltb, nat_tests}
use Rattle.sparse_algebra.proofs.Cases.{and_both, and_parts, neither, or_cases, true_or_false}
use Rattle.sparse_algebra.specs.Algebra.{CommRing}
use Rattle.sparse_algebra.specs.Sums.{sum_below, sum_by, where_true}
use Rattle.sparse_algebra.specs.Plain.{Plain, IsProper, IsWithin, any_below, is_at}
use Rattle.sparse_algebra.specs.Plain.{plain_of_triplets, plain_sum, plain_negation}
use Rattle.sparse_algebra.specs.Plain.{plain_difference, plain_scaled, plain_product}
use Rattle.sparse_algebra.specs.Plain.{plain_transpose, plain_identity, plain_kept}
use Rattle.sparse_algebra.proofs.RingLemmas.{zero_add, mul_zero, zero_mul, neg_zero, distrib_right}
use Rattle.sparse_algebra.proofs.SumLemmas.{sum_below-same, sum_below-none, sum_below-add}
use Rattle.sparse_algebra.proofs.SumLemmas.{product_assoc, where_yes, where_no}
use Rattle.sparse_algebra.proofs.PlainLemmas.{same_plain, same_bool, any_below-same, any_is}
use Rattle.sparse_algebra.proofs.PlainLemmas.{transpose_product}

-- ---- Booleans

or_cross : (a b c d : Bool) → ((a || b) || (c || d)) ≡ ((a || c) || (b || d))
or_cross true b c d = refl
or_cross false true true d = refl
or_cross false true false d = refl
or_cross false false c d = refl

any_below-none : (n : ℕ) → any_below n (λ k. false) ≡ false
any_below-none zero = refl
any_below-none (suc n) = ap (λ b. b || false) (any_below-none n)

any_below-or : (n : ℕ) (s t : ℕ → Bool)
    → any_below n (λ k. s k || t k) ≡ (any_below n s || any_below n t)
any_below-or zero s t = refl
any_below-or (suc n) s t = ap (λ b. b || (s n || t n)) (any_below-or n s t)
    ∙ or_cross (any_below n s) (any_below n t) (s n) (t n)

any_below-and_left : (n : ℕ) (b : Bool) (t : ℕ → Bool)
    → any_below n (λ k. b && t k) ≡ (b && any_below n t)
any_below-and_left n true t = refl
any_below-and_left n false t = any_below-none n

any_below-and_right : (n : ℕ) (t : ℕ → Bool) (b : Bool)
    → any_below n (λ k. t k && b) ≡ (any_below n t && b)
any_below-and_right zero t b = refl
any_below-and_right (suc n) t b = ap (λ c. c || (t n && b)) (any_below-and_right n t b)
    ∙ sym (and-or_distrib_right (any_below n t) (t n) b)

-- whether some pair (i, j) passes a test does not depend on the order in which i and j are searched
any_below-exchange : (m n : ℕ) (t : ℕ → ℕ → Bool)
    → any_below m (λ i. any_below n (λ j. t i j)) ≡ any_below n (λ j. any_below m (λ i. t i j))
any_below-exchange zero n t = sym (any_below-none n)
any_below-exchange (suc m) n t = ap (λ b. b || any_below n (λ j. t m j)) (any_below-exchange m n t)
    ∙ sym (any_below-or n (λ j. any_below m (λ i. t i j)) (λ j. t m j))

-- a chain a k, b k l, c l exists: for some l some k, or equally for some k some l
any_below-assoc : (m n : ℕ) (a : ℕ → Bool) (b : ℕ → ℕ → Bool) (c : ℕ → Bool)
    → any_below n (λ l. any_below m (λ k. a k && b k l) && c l) ≡ any_below m
    (λ k. a k && any_below n (λ l. b k l && c l))
any_below-assoc m n a b c =
    any_below-same n _ (λ l. any_below m (λ k. a k && (b k l && c l)))
    (λ l. sym (any_below-and_right m (λ k. a k && b k l) (c l))
    ∙ any_below-same m _ _ (λ k. and_assoc (a k) (b k l) (c l)))
    ∙ any_below-exchange n m (λ l k. a k && (b k l && c l))
    ∙ any_below-same m _ _ (λ k. any_below-and_left n (a k) (λ l. b k l && c l))

-- ---- sums with one term

module _ (R : CommRing) where
  sum_below-one : (n i : ℕ) (f : ℕ → R.Carrier) → i < n → ((k : ℕ) → k ≢ i → f k ≡ R.zero)
      → sum_below R n f ≡ f i
  sum_below-one zero i f lt h = absurd (omega arith)
  sum_below-one (suc n) i f lt h = elim (true_or_false (nat_eq n i)) [
    | inl same ↦
        let at : n ≡ i = (Decides-eqb n i).0 same in
        ap (λ c. R.add c (f n)) (sum_below-none R n f (λ k less. h k (omega arith)))
        ∙ zero_add R (f n) ∙ ap f at
    | inr other ↦
        let apart : n ≢ i = λ e. grind (arith, nat_tests) in
        ap (R.add (sum_below R n f)) (h n apart) ∙ R.laws.add_zero _
        ∙ sum_below-one n i f (omega arith) h
  ]

  -- ---- products

  pub product_associative : (a b c : Plain R)
      → plain_product R (plain_product R a b) c ≡ plain_product R a (plain_product R b c)
  product_associative a b c = same_plain (plain_product R (plain_product R a b) c)
      (plain_product R a (plain_product R b c)) refl refl
      (λ i j. any_below-assoc a.cols b.cols (λ k. a.has i k) b.has (λ l. c.has l j))
      (λ i j. product_assoc R a.cols b.cols (λ k. a.value i k) b.value (λ l. c.value l j))

  pub product-sum : (a b c : Plain R)
      → plain_product R a (plain_sum R b c) ≡ plain_sum R (plain_product R a b)
      (plain_product R a c)
  product-sum a b c = same_plain (plain_product R a (plain_sum R b c))
      (plain_sum R (plain_product R a b) (plain_product R a c)) refl refl
      (λ i j. any_below-same a.cols _ _
      (λ k. and-or_distrib_left (a.has i k) (b.has k j) (c.has k j)) ∙ any_below-or a.cols _ _)
      (λ i j. sum_below-same R a.cols _ _ (λ k _. R.laws.distrib (a.value i k) (b.value k j)
      (c.value k j)) ∙ sum_below-add R a.cols _ _)

  pub sum-product : (a b c : Plain R) → a.cols ≡ b.cols
      → plain_product R (plain_sum R a b) c ≡ plain_sum R (plain_product R a c)
      (plain_product R b c)
  sum-product a b c e = same_plain (plain_product R (plain_sum R a b) c)
      (plain_sum R (plain_product R a c) (plain_product R b c)) refl refl
      (λ i j. any_below-same a.cols _ _
      (λ k. and-or_distrib_right (a.has i k) (b.has i k) (c.has k j)) ∙ any_below-or a.cols _ _
      ∙ ap (λ n. any_below a.cols (λ k. a.has i k && c.has k j)
      || any_below n (λ k. b.has i k && c.has k j)) e)
      (λ i j.
      sum_below-same R a.cols _ _
      (λ k _. distrib_right R (a.value i k) (b.value i k) (c.value k j))
      ∙ sum_below-add R a.cols _ _
      ∙ ap (λ n. R.add (sum_below R a.cols (λ k. R.mul (a.value i k) (c.value k j)))
      (sum_below R n (λ k. R.mul (b.value i k) (c.value k j)))) e)

  pub transpose_twice : (a : Plain R) → plain_transpose R (plain_transpose R a) ≡ a
  transpose_twice a = refl

  -- ---- properness

  pub proper_sum : (a b : Plain R) → IsProper a → IsProper b → IsProper (plain_sum R a b)
  proper_sum a b pa pb i j h =
      let parts = neither (a.has i j) (b.has i j) h in
      ap (λ c. R.add c (b.value i j)) (pa i j parts.0) ∙ ap (R.add R.zero) (pb i j parts.1)
      ∙ R.laws.add_zero R.zero

  pub proper_negation : (a : Plain R) → IsProper a → IsProper (plain_negation R a)
  proper_negation a p i j h = ap R.neg (p i j h) ∙ neg_zero R

  pub proper_difference : (a b : Plain R) → IsProper a → IsProper b
      → IsProper (plain_difference R a b)
  proper_difference a b pa pb = proper_sum a (plain_negation R b) pa (proper_negation b pb)

  pub proper_scaled : (s : R.Carrier) (a : Plain R) → IsProper a → IsProper (plain_scaled R s a)
  proper_scaled s a p i j h = ap (R.mul s) (p i j h) ∙ mul_zero R s

  pub proper_transpose : (a : Plain R) → IsProper a → IsProper (plain_transpose R a)
  proper_transpose a p i j h = p j i h

  pub proper_identity : (n : ℕ) → IsProper (plain_identity R n)
  proper_identity n i j h = where_no R _ R.one h

  pub proper_kept : (test : ℕ → ℕ → Bool) (a : Plain R) → IsProper (plain_kept R test a)
  proper_kept test a i j h = where_no R _ (a.value i j) h

  pub proper_plain_of_triplets : {T : Type 0} (f : T → R.Carrier) (rows cols : ℕ)
      (ts : List (ℕ × ℕ × T))
      → IsProper (plain_of_triplets R f rows cols ts)
  proper_plain_of_triplets f rows cols [] i j h = refl
  proper_plain_of_triplets f rows cols (t ∷ ts) i j h =
      let parts = neither (is_at i j t) (list_any (is_at i j) ts) h in
      ap (λ c. R.add c (sum_by R (λ t. where_true R (is_at i j t) (f t.2)) ts))
      (where_no R (is_at i j t) (f t.2) parts.0) ∙ zero_add R _
      ∙ proper_plain_of_triplets f rows cols ts i j parts.1

  -- ---- places within the shape

  pub within_plain_of_triplets : {T : Type 0} (f : T → R.Carrier) (rows cols : ℕ)
      (ts : List (ℕ × ℕ × T))
      → All (λ t. (t.0 < rows) × (t.1 < cols)) ts → IsWithin (plain_of_triplets R f rows cols ts)
  within_plain_of_triplets f rows cols [] inside i j h = cc
  within_plain_of_triplets f rows cols (t ∷ ts) inside i j h =
      elim (or_cases (is_at i j t) (list_any (is_at i j) ts) h) [
        | inl here ↦
            let both = and_parts (nat_eq t.0 i) (nat_eq t.1 j) here in
            let row : t.0 ≡ i = (Decides-eqb t.0 i).0 both.0 in
            let col : t.1 ≡ j = (Decides-eqb t.1 j).0 both.1 in
            let at = inside 0 t (omega arith) in
            (omega (arith, at.0), omega (arith, at.1))
        | inr later ↦ within_plain_of_triplets f rows cols ts
            (λ k d lt. inside (suc k) d (omega arith))
            i j later
      ]

  pub within_product : (a b : Plain R) → IsWithin a → IsWithin b → IsWithin (plain_product R a b)
  within_product a b wa wb i j h =
      let some = (any_is a.cols (λ k. a.has i k && b.has k j)).0 h in
      let both = and_parts _ _ some.2 in
      ((wa i some.0 both.0).0, (wb some.0 j both.1).1)

  pub within_transpose : (a : Plain R) → IsWithin a → IsWithin (plain_transpose R a)
  within_transpose a w i j h = let x = w j i h in (x.1, x.0)

  pub within_kept : (test : ℕ → ℕ → Bool) (a : Plain R) → IsWithin a
      → IsWithin (plain_kept R test a)
  within_kept test a w i j h = w i j (and_parts _ _ h).0

  -- ---- the identity

  pub identity-product : (n : ℕ) (a : Plain R) → n ≡ a.rows → IsProper a → IsWithin a
      → plain_product R (plain_identity R n) a ≡ a
  identity-product n a e proper within = same_plain (plain_product R (plain_identity R n) a) a e
      refl places values
    where
      on_diagonal : (i : ℕ) → i < n → (nat_eq i i && nat_lt i n) ≡ true
      on_diagonal i lt = and_both _ _ ((Decides-eqb i i).1 refl) ((Decides-ltb i n).1 lt)

      off_diagonal : (i k : ℕ) → k ≢ i → (nat_eq i k && nat_lt i n) ≡ false
      off_diagonal i k apart = grind (arith, nat_tests)

      places : (i j : ℕ) → any_below n (λ k. (nat_eq i k && nat_lt i n) && a.has k j) ≡ a.has i j
      places i j = same_bool _ _
          (λ h.
          let some = (any_is n (λ k. (nat_eq i k && nat_lt i n) && a.has k j)).0 h in
          let both = and_parts _ (a.has some.0 j) some.2 in
          let at : i ≡ some.0 = (Decides-eqb i some.0).0 (and_parts _ _ both.0).0 in
          ap (λ k. a.has k j) at ∙ both.1)
          (λ h.
          let lt : i < n = omega (arith, (within i j h).0) in
          (any_is n (λ k. (nat_eq i k && nat_lt i n) && a.has k j)).1
          (i, lt, and_both _ _ (on_diagonal i lt) h))

      values : (i j : ℕ)
          → sum_below R n (λ k. R.mul (where_true R (nat_eq i k && nat_lt i n) R.one) (a.value k j))
          ≡ a.value i j
      values i j = elim (true_or_false (nat_lt i n)) [
        | inl inside ↦
            let lt : i < n = (Decides-ltb i n).0 inside in
            sum_below-one n i _ lt (λ k apart. ap (λ c. R.mul c (a.value k j))
            (where_no R _ R.one (off_diagonal i k apart)) ∙ zero_mul R (a.value k j))
            ∙ ap (λ c. R.mul c (a.value i j)) (where_yes R _ R.one (on_diagonal i lt))
            ∙ R.laws.mul_comm R.one (a.value i j) ∙ R.laws.mul_one (a.value i j)
        | inr outside ↦
            let none : a.has i j ≡ false = elim (true_or_false (a.has i j)) [
              | inl hit ↦ absurd (grind (arith, nat_tests, (within i j hit).0))
              | inr miss ↦ miss
            ] in
            sum_below-none R n _ (λ k lt. ap (λ c. R.mul c (a.value k j))
            (where_no R _ R.one (and_right (nat_eq i k) _ outside)) ∙ zero_mul R (a.value k j))
            ∙ sym (proper i j none)
      ]

  pub transpose_identity : (n : ℕ) → plain_transpose R (plain_identity R n) ≡ plain_identity R n
  transpose_identity n = same_plain (plain_transpose R (plain_identity R n)) (plain_identity R n)
      refl refl same (λ i j. ap (λ b. where_true R b R.one) (same i j))
    where
      same : (i j : ℕ) → (nat_eq j i && nat_lt j n) ≡ (nat_eq i j && nat_lt i n)
      same i j = grind (arith, nat_tests)

  pub product-identity : (n : ℕ) (a : Plain R) → n ≡ a.cols → IsProper a → IsWithin a
      → plain_product R a (plain_identity R n) ≡ a
  product-identity n a e proper within =
      let transposed = identity-product n (plain_transpose R a) e (proper_transpose a proper)
      (within_transpose a within) in
      ap (plain_transpose R) (transpose_product R a (plain_identity R n) (sym e)
      ∙ ap (λ b. plain_product R b (plain_transpose R a)) (transpose_identity n) ∙ transposed)
