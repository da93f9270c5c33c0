-- Laws of finite sums in a commutative ring.
use Rattle.std.proofs.Common.{◌≡◌, ℕ, zero, suc, ◌<◌, List, [], ◌∷◌, ◌++◌, length, set, get_or, sym}
use Rattle.std.proofs.Common.{ap, ◌∙◌, refl, arith, subst, inl, inr, Bool, true, false}
use Rattle.std.proofs.Common.{get_or-set_same}
use Rattle.std.proofs.Common.{get_or-set_other, length-set}
use Rattle.std.specs.List.{swap}
use Rattle.std.proofs.lemmas.Bool.{cases_eq}
use Rattle.std.specs.List.Sorted.{IsPermutation}
use Rattle.std.proofs.lemmas.List.Sorted.{IsPermutation-keeps}
use Rattle.sparse_algebra.specs.Algebra.{CommRing}
use Rattle.sparse_algebra.specs.Sums.{sum_below, sum_by, where_true}
use Rattle.sparse_algebra.proofs.RingLemmas.{zero_add, add_cross, mul_zero, cancel}

module _ (R : CommRing) where
  -- ---- a term with a condition

  pub where_yes : (b : Bool) (c : R.Carrier) → b ≡ true → where_true R b c ≡ c
  where_yes true c e = refl
  where_yes false c e = cc

  pub where_no : (b : Bool) (c : R.Carrier) → b ≡ false → where_true R b c ≡ R.zero
  where_no true c e = cc
  where_no false c e = refl

  -- ---- over a list

  module _ {X : Type 0} where
    pub sum_by-append : (f : X → R.Carrier) (xs ys : List X)
        → sum_by R f (xs ++ ys) ≡ R.add (sum_by R f xs) (sum_by R f ys)
    sum_by-append f [] ys = sym (zero_add R (sum_by R f ys))
    sum_by-append f (x ∷ xs) ys = ap (R.add (f x)) (sum_by-append f xs ys)
        ∙ sym (R.laws.add_assoc (f x) (sum_by R f xs) (sum_by R f ys))

    pub sum_by-same : (f g : X → R.Carrier) → ((x : X) → f x ≡ g x) → (xs : List X)
        → sum_by R f xs ≡ sum_by R g xs
    sum_by-same f g h [] = refl
    sum_by-same f g h (x ∷ xs) = ap (λ c. R.add c (sum_by R f xs)) (h x)
        ∙ ap (R.add (g x)) (sum_by-same f g h xs)

    pub sum_by-zero : (xs : List X) → sum_by R (λ x. R.zero) xs ≡ R.zero
    sum_by-zero [] = refl
    sum_by-zero (x ∷ xs) = zero_add R _ ∙ sum_by-zero xs

  -- ---- over the numbers below n

  pub sum_below-same : (n : ℕ) (f g : ℕ → R.Carrier) → ((k : ℕ) → k < n → f k ≡ g k)
      → sum_below R n f ≡ sum_below R n g
  sum_below-same zero f g h = refl
  sum_below-same (suc n) f g h = ap (λ c. R.add c (f n))
      (sum_below-same n f g (λ k l. h k (omega arith)))
      ∙ ap (R.add (sum_below R n g)) (h n (omega arith))

  pub sum_below-zero : (n : ℕ) → sum_below R n (λ k. R.zero) ≡ R.zero
  sum_below-zero zero = refl
  sum_below-zero (suc n) = R.laws.add_zero _ ∙ sum_below-zero n

  pub sum_below-none : (n : ℕ) (f : ℕ → R.Carrier) → ((k : ℕ) → k < n → f k ≡ R.zero)
      → sum_below R n f ≡ R.zero
  sum_below-none n f h = sum_below-same n f (λ k. R.zero) h ∙ sum_below-zero n

  pub sum_below-add : (n : ℕ) (f g : ℕ → R.Carrier)
      → sum_below R n (λ k. R.add (f k) (g k)) ≡ R.add (sum_below R n f) (sum_below R n g)
  sum_below-add zero f g = sym (R.laws.add_zero R.zero)
  sum_below-add (suc n) f g = ap (λ c. R.add c (R.add (f n) (g n))) (sum_below-add n f g)
      ∙ add_cross R (sum_below R n f) (sum_below R n g) (f n) (g n)

  pub sum_below-mul : (n : ℕ) (c : R.Carrier) (f : ℕ → R.Carrier)
      → sum_below R n (λ k. R.mul c (f k)) ≡ R.mul c (sum_below R n f)
  sum_below-mul zero c f = sym (mul_zero R c)
  sum_below-mul (suc n) c f = ap (λ x. R.add x (R.mul c (f n))) (sum_below-mul n c f)
      ∙ sym (R.laws.distrib c (sum_below R n f) (f n))

  pub sum_below-exchange : (m n : ℕ) (h : ℕ → ℕ → R.Carrier)
      → sum_below R m (λ i. sum_below R n (λ j. h i j)) ≡ sum_below R n
      (λ j. sum_below R m (λ i. h i j))
  sum_below-exchange zero n h = sym (sum_below-zero n)
  sum_below-exchange (suc m) n h = ap (λ c. R.add c (sum_below R n (λ j. h m j)))
      (sum_below-exchange m n h) ∙ sym (sum_below-add n (λ j. sum_below R m (λ i. h i j))
      (λ j. h m j))

  -- an entry of (A B) C equals the entry of A (B C); a is a row of A, and c a column of C
  pub product_assoc : (m n : ℕ) (a : ℕ → R.Carrier) (b : ℕ → ℕ → R.Carrier) (c : ℕ → R.Carrier)
      → sum_below R n (λ l. R.mul (sum_below R m (λ k. R.mul (a k) (b k l))) (c l)) ≡ sum_below R m
      (λ k. R.mul (a k) (sum_below R n (λ l. R.mul (b k l) (c l))))
  product_assoc m n a b c =
      sum_below-same n _ (λ l. sum_below R m (λ k. R.mul (a k) (R.mul (b k l) (c l))))
      (λ l _. left l)
      ∙ sum_below-exchange n m (λ l k. R.mul (a k) (R.mul (b k l) (c l)))
      ∙ sum_below-same m _ _ (λ k _. sum_below-mul n (a k) (λ l. R.mul (b k l) (c l)))
    where
      left : (l : ℕ)
          → R.mul (sum_below R m (λ k. R.mul (a k) (b k l))) (c l) ≡ sum_below R m
          (λ k. R.mul (a k) (R.mul (b k l) (c l)))
      left l =
          R.laws.mul_comm _ (c l) ∙ sym (sum_below-mul m (c l) (λ k. R.mul (a k) (b k l)))
          ∙ sum_below-same m _ _ (λ k _. R.laws.mul_comm (c l) (R.mul (a k) (b k l))
          ∙ R.laws.mul_assoc (a k) (b k l) (c l))

get_or_after_set : {X : Type 0} (l : List X) (i j : ℕ) (y d : X) → i < length l → get_or l j d ≡ y
    → get_or (set l i y) j d ≡ y
get_or_after_set l i j y d h q =
    elim (cases_eq j i) [
      | inl e ↦ subst (λ k. get_or (set l i y) k d ≡ y) (sym e)
          (get_or-set_same l i y d h)
      | inr n ↦ get_or-set_other l i j y d n ∙ q
    ]

module _ (R : CommRing) where
  module _ {X : Type 0} (f : X → R.Carrier) where
    -- sum after a write + the old element = sum before it + the new element
    pub sum_by-set : (xs : List X) (i : ℕ) (d y : X) → i < length xs
        → R.add (sum_by R f (set xs i y)) (f (get_or xs i d)) ≡ R.add (sum_by R f xs) (f y)
    sum_by-set [] i d y h = absurd (omega arith)
    sum_by-set (x ∷ xs) zero d y h =
        R.laws.add_assoc (f y) (sum_by R f xs) (f x) ∙ R.laws.add_comm (f y) _
        ∙ ap (λ c. R.add c (f y)) (R.laws.add_comm (sum_by R f xs) (f x))
    sum_by-set (x ∷ xs) (suc i) d y h =
        R.laws.add_assoc (f x) (sum_by R f (set xs i y)) (f (get_or xs i d))
        ∙ ap (R.add (f x)) (sum_by-set xs i d y (omega arith))
        ∙ sym (R.laws.add_assoc (f x) (sum_by R f xs) (f y))

    sum_by-swap : (l : List X) (i j : ℕ) → i < length l → j < length l
        → sum_by R f l ≡ sum_by R f (swap l i j)
    sum_by-swap [] i j h k = absurd (omega arith)
    sum_by-swap (d ∷ ys) i j h k =
        let l : List X = d ∷ ys in
        let x : X = get_or l i d in
        let y : X = get_or l j d in
        let read = get_or_after_set l i j y d h refl in
        let a = sum_by-set l i d y h in
        let b = sum_by-set (set l i y) j d x (rw length-set k) in
        cancel R (sum_by R f l) (sum_by R f (set (set l i y) j x)) (f y)
        (sym (ap (λ z. R.add (sum_by R f (set (set l i y) j x)) (f z)) (sym read) ∙ b ∙ a))

    -- permutations as std defines them, and as its sorts ensure them
    pub sum_by-permutation : (xs ys : List X) → IsPermutation xs ys → sum_by R f xs ≡ sum_by R f ys
    sum_by-permutation xs = IsPermutation-keeps xs (λ l. sum_by R f xs ≡ sum_by R f l) refl
        (λ l i j h k e. e ∙ sum_by-swap l i j h k)
