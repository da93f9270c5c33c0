-- The images of the integers in a commutative ring: the only ring homomorphism from the integers.
use Rattle.std.proofs.Common.{◌≡◌, ℕ, zero, suc, ℤ, pos, negsuc, ◌+◌, ◌*◌, refl, sym, ap, ◌∙◌, arith}
use Rattle.std.specs.Prelude.{◌+ℤ◌, ◌*ℤ◌}
use Rattle.std.proofs.lemmas.Int.{ints}
use borrow.Author.Differences.{up, down, sum_is_lem, product_is}
use lib.IntN.{neg_ℤ}
use Rattle.sparse_algebra.specs.Algebra.{CommRing}
use Rattle.sparse_algebra.specs.Integers.{times_one, element_of}
use Rattle.sparse_algebra.specs.RingMaps.{IsRingMap}
use Rattle.sparse_algebra.specs.Whole.{whole_ring}
use Rattle.sparse_algebra.proofs.RingLemmas.{zero_add, add_cross, neg_unique, mul_zero, distrib_right}
use Rattle.sparse_algebra.proofs.RingLemmas.{neg_zero, neg_add, cancel}

module _ (R : CommRing) where
  times : ℕ → R.Carrier
  times n = times_one R n

  times-next : (n : ℕ) → times_one R (suc n) ≡ R.add (times_one R n) R.one
  unfolding times_one
  times-next n = refl

  times-none : times_one R 0 ≡ R.zero
  unfolding times_one
  times-none = refl

  times-add : (m n : ℕ) → times_one R (m + n) ≡ R.add (times_one R m) (times_one R n)
  times-add m zero = ap (times_one R) (omega arith) ∙ sym (R.laws.add_zero (times_one R m))
      ∙ ap (R.add (times_one R m)) (sym times-none)
  times-add m (suc n) =
      let more : m + suc n ≡ suc (m + n) = omega arith in
      ap (times_one R) more ∙ times-next (m + n)
      ∙ ap (λ x. R.add x R.one) (times-add m n)
      ∙ R.laws.add_assoc (times_one R m) (times_one R n) R.one
      ∙ ap (R.add (times_one R m)) (sym (times-next n))

  times-mul : (m n : ℕ) → times_one R (m * n) ≡ R.mul (times_one R m) (times_one R n)
  times-mul m zero =
      let none : m * 0 ≡ 0 = omega arith in
      ap (times_one R) none ∙ times-none ∙ sym (mul_zero R (times_one R m))
      ∙ ap (R.mul (times_one R m)) (sym times-none)
  times-mul m (suc n) =
      let more : m * suc n ≡ m * n + m = omega arith in
      ap (times_one R) more ∙ times-add (m * n) m
      ∙ ap (λ x. R.add x (times_one R m)) (times-mul m n)
      ∙ ap (R.add (R.mul (times_one R m) (times_one R n))) (sym (R.laws.mul_one (times_one R m)))
      ∙ sym (R.laws.distrib (times_one R m) (times_one R n) R.one)
      ∙ ap (R.mul (times_one R m)) (sym (times-next n))

  -- ---- differences

  minus : R.Carrier → R.Carrier → R.Carrier
  minus a b = R.add a (R.neg b)

  neg-add : (a : R.Carrier) → R.add (R.neg a) a ≡ R.zero
  neg-add a = R.laws.add_comm (R.neg a) a ∙ R.laws.add_neg a

  -- if x + v = u + y, then x - y = u - v
  same-minus : (x y u v : R.Carrier) → R.add x v ≡ R.add u y
      → R.add x (R.neg y) ≡ R.add u (R.neg v)
  same-minus x y u v e =
      cancel R (R.add x (R.neg y)) (R.add u (R.neg v)) (R.add v y)
      (add_cross R x (R.neg y) v y
      ∙ ap (R.add (R.add x v)) (neg-add y) ∙ R.laws.add_zero (R.add x v)
      ∙ e
      ∙ sym (ap (R.add (R.add u (R.neg v))) (R.laws.add_comm v y)
      ∙ add_cross R u (R.neg v) y v
      ∙ ap (R.add (R.add u y)) (neg-add v) ∙ R.laws.add_zero (R.add u y)))

  mul-neg : (a b : R.Carrier) → R.mul a (R.neg b) ≡ R.neg (R.mul a b)
  mul-neg a b = neg_unique R (R.mul a b) (R.mul a (R.neg b))
      (sym (R.laws.distrib a b (R.neg b)) ∙ ap (R.mul a) (R.laws.add_neg b) ∙ mul_zero R a)

  neg-mul : (a b : R.Carrier) → R.mul (R.neg a) b ≡ R.neg (R.mul a b)
  neg-mul a b = R.laws.mul_comm (R.neg a) b ∙ mul-neg b a ∙ ap R.neg (R.laws.mul_comm b a)

  neg-neg : (a : R.Carrier) → R.neg (R.neg a) ≡ a
  neg-neg a = sym (neg_unique R (R.neg a) a (neg-add a))

  -- (x - y) (u - v) = (x u + y v) - (x v + y u)
  mul-minus : (x y u v : R.Carrier)
      → R.mul (R.add x (R.neg y)) (R.add u (R.neg v))
      ≡ R.add (R.add (R.mul x u) (R.mul y v)) (R.neg (R.add (R.mul x v) (R.mul y u)))
  mul-minus x y u v =
      let last : R.mul (R.neg y) (R.neg v) ≡ R.mul y v = neg-mul y (R.neg v)
      ∙ ap R.neg (mul-neg y v) ∙ neg-neg (R.mul y v) in
      distrib_right R x (R.neg y) (R.add u (R.neg v))
      ∙ ap (λ c. R.add c (R.mul (R.neg y) (R.add u (R.neg v))))
      (R.laws.distrib x u (R.neg v) ∙ ap (R.add (R.mul x u)) (mul-neg x v))
      ∙ ap (R.add (R.add (R.mul x u) (R.neg (R.mul x v))))
      (R.laws.distrib (R.neg y) u (R.neg v)
      ∙ ap (λ c. R.add c (R.mul (R.neg y) (R.neg v))) (neg-mul y u)
      ∙ ap (R.add (R.neg (R.mul y u))) last
      ∙ R.laws.add_comm (R.neg (R.mul y u)) (R.mul y v))
      ∙ add_cross R (R.mul x u) (R.neg (R.mul x v)) (R.mul y v) (R.neg (R.mul y u))
      ∙ ap (R.add (R.add (R.mul x u) (R.mul y v))) (sym (neg_add R (R.mul x v) (R.mul y u)))

  -- ---- integers

  image-is : (z : ℤ) → element_of R z ≡ R.add (times_one R (up z)) (R.neg (times_one R (down z)))
  unfolding element_of
  image-is (pos n) = sym (ap (R.add (times_one R n)) (ap R.neg times-none ∙ neg_zero R)
      ∙ R.laws.add_zero (times_one R n))
  image-is (negsuc n) = sym (ap (λ c. R.add c (R.neg (times_one R (suc n)))) times-none
      ∙ zero_add R (R.neg (times_one R (suc n))))

  -- equal differences have equal images
  same-image : (a b c d : ℕ) → a + d ≡ c + b
      → R.add (times_one R a) (R.neg (times_one R b)) ≡ R.add (times_one R c) (R.neg (times_one R d))
  same-image a b c d e = same-minus (times_one R a) (times_one R b) (times_one R c) (times_one R d)
      (sym (times-add a d) ∙ ap (times_one R) e ∙ times-add c b)

  image-add : (a b : ℤ) → element_of R (a +ℤ b) ≡ R.add (element_of R a) (element_of R b)
  image-add a b =
      image-is (a +ℤ b)
      ∙ same-image (up (a +ℤ b)) (down (a +ℤ b)) (up a + up b) (down a + down b)
      (omega (arith, sum_is_lem a b))
      ∙ ap (λ c. R.add c (R.neg (times_one R (down a + down b)))) (times-add (up a) (up b))
      ∙ ap (R.add (R.add (times_one R (up a)) (times_one R (up b))))
      (ap R.neg (times-add (down a) (down b))
      ∙ neg_add R (times_one R (down a)) (times_one R (down b)))
      ∙ add_cross R (times_one R (up a)) (times_one R (up b)) (R.neg (times_one R (down a)))
      (R.neg (times_one R (down b)))
      ∙ ap (λ c. R.add c (R.add (times_one R (up b)) (R.neg (times_one R (down b)))))
      (sym (image-is a))
      ∙ ap (R.add (element_of R a)) (sym (image-is b))

  image-mul : (a b : ℤ) → element_of R (a *ℤ b) ≡ R.mul (element_of R a) (element_of R b)
  image-mul a b =
      let p = product_is a b in
      let sums : (k l m n : ℕ) → times_one R (k * l + m * n)
      ≡ R.add (R.mul (times_one R k) (times_one R l)) (R.mul (times_one R m) (times_one R n)) =
      λ k l m n. times-add (k * l) (m * n)
      ∙ ap (λ c. R.add c (times_one R (m * n))) (times-mul k l)
      ∙ ap (R.add (R.mul (times_one R k) (times_one R l))) (times-mul m n) in
      image-is (a *ℤ b)
      ∙ ap (λ n. R.add (times_one R n) (R.neg (times_one R (down (a *ℤ b))))) p.0
      ∙ ap (λ n. R.add (times_one R (up a * up b + down a * down b)) (R.neg (times_one R n))) p.1
      ∙ ap (λ c. R.add c (R.neg (times_one R (up a * down b + down a * up b))))
      (sums (up a) (up b) (down a) (down b))
      ∙ ap (λ c. R.add (R.add (R.mul (times_one R (up a)) (times_one R (up b)))
      (R.mul (times_one R (down a)) (times_one R (down b)))) (R.neg c))
      (sums (up a) (down b) (down a) (up b))
      ∙ sym (mul-minus (times_one R (up a)) (times_one R (down a)) (times_one R (up b))
      (times_one R (down b)))
      ∙ ap (λ c. R.mul c (R.add (times_one R (up b)) (R.neg (times_one R (down b)))))
      (sym (image-is a))
      ∙ ap (R.mul (element_of R a)) (sym (image-is b))

  image-zero : element_of R (pos 0) ≡ R.zero
  unfolding element_of
  image-zero = times-none

  image-one : element_of R (pos 1) ≡ R.one
  unfolding element_of
  image-one = times-next 0 ∙ ap (λ c. R.add c R.one) times-none ∙ zero_add R R.one

  pub image-IsRingMap : IsRingMap whole_ring R (element_of R)
  image-IsRingMap = record {
    zero = image-zero;
    one = image-one;
    add = image-add;
    mul = image-mul;
    neg = λ a. neg_unique R (element_of R a) (element_of R (neg_ℤ a))
        (sym (image-add a (neg_ℤ a)) ∙ ap (element_of R) (whole_ring.laws.add_neg a) ∙ image-zero);
  }

module _ (R : CommRing) (h : ℤ → R.Carrier) (is : IsRingMap whole_ring R h) where
  map-natural : (n : ℕ) → h (pos n) ≡ times_one R n
  unfolding times_one
  map-natural zero = is.zero
  map-natural (suc n) =
      let next : pos (suc n) ≡ pos n +ℤ pos 1 = omega (arith, ints) in
      ap h next ∙ is.add (pos n) (pos 1) ∙ ap (λ c. R.add c (h (pos 1))) (map-natural n)
      ∙ ap (R.add (times_one R n)) is.one

  pub map-integer : (z : ℤ) → h z ≡ element_of R z
  unfolding element_of
  map-integer (pos n) = map-natural n
  map-integer (negsuc n) = is.neg (pos (suc n)) ∙ ap R.neg (map-natural (suc n))
