-- Ring homomorphisms from and to dual numbers, Gaussian numbers and pairs.
use Rattle.std.proofs.Common.{◌≡◌, ℕ, zero, suc, ◌+◌, ◌-◌, ◌*◌, ◌%◌, ◌≤◌, Bool, true, false}
use Rattle.std.proofs.Common.{◌&&◌, sym, ap, ◌∙◌, refl, arith}
use Rattle.std.specs.Prelude.{◌||◌}
use Rattle.std.specs.Int.{◌∣◌}
use Rattle.std.proofs.Math.Nat.{mod-mod_of_dvd, dvd-mul_left, dvd-mul_right, zero-mod}
use Rattle.std.proofs.lemmas.Nat.Gcd.{mod-eq-zero_of_dvd}
use Rattle.sparse_algebra.specs.Algebra.{CommRing}
use Rattle.sparse_algebra.specs.Moduli.{modulus, mod_ring, mod_class}
use Rattle.sparse_algebra.specs.Plain.{Plain, any_below, plain_sum, plain_product}
use Rattle.sparse_algebra.specs.RingMaps.{IsRingMap, plain_map}
use Rattle.sparse_algebra.proofs.ModClasses.{mod_same, mod_class_add, mod_class_mul}
use Rattle.sparse_algebra.proofs.PlainLemmas.{same_plain}
use Rattle.sparse_algebra.proofs.RingLemmas.{mul_zero, zero_mul, zero_add, neg_zero, neg_add}
use Rattle.sparse_algebra.proofs.RingLemmas.{neg_unique}
use Rattle.sparse_algebra.proofs.SumLemmas.{sum_below-add}
use Rattle.sparse_algebra.specs.Sums.{sum_below}
use Rattle.sparse_rings.specs.ChineseRemainders.{both_ring, residue_pair}
use Rattle.sparse_rings.specs.DualRing.{dual_ring, DualElement}
use Rattle.sparse_rings.specs.GaussianRing.{gaussian_ring, gaussian_conjugate}
use Rattle.sparse_rings.specs.InnerPairs.{same_pair, same_sum}
use Rattle.sparse_rings.specs.PairRing.{pair_ring}
use Rattle.sparse_rings.proofs.Norms.{conjugate-mul}

twice : (b : Bool) → b ≡ (b || b)
twice true = refl
twice false = refl

module _ (R : CommRing) where
  crossed_zero : (a b : R.Carrier) → R.zero ≡ R.add (R.mul a R.zero) (R.mul R.zero b)
  crossed_zero a b = sym (same_sum R _ _ _ _ (mul_zero R a) (zero_mul R b)
      ∙ R.laws.add_zero R.zero)

  pub constant-map : IsRingMap R (dual_ring R) (λ a. (a, R.zero))
  constant-map = record {
    zero = refl;
    one = refl;
    add = λ a b. same_pair _ _ refl (sym (R.laws.add_zero R.zero));
    mul = λ a b. same_pair _ _ refl (crossed_zero a b);
    neg = λ a. same_pair _ _ refl (sym (neg_zero R));
  }

  pub real-map : IsRingMap R (gaussian_ring R) (λ a. (a, R.zero))
  real-map = record {
    zero = refl;
    one = refl;
    add = λ a b. same_pair _ _ refl (sym (R.laws.add_zero R.zero));
    mul = λ a b. same_pair _ _
        (sym (ap (R.add (R.mul a b)) (ap R.neg (mul_zero R R.zero) ∙ neg_zero R)
        ∙ R.laws.add_zero (R.mul a b))) (crossed_zero a b);
    neg = λ a. same_pair _ _ refl (sym (neg_zero R));
  }

  pub conjugate-map : IsRingMap (gaussian_ring R) (gaussian_ring R) (gaussian_conjugate R)
  conjugate-map = record {
    zero = same_pair _ _ refl (neg_zero R);
    one = same_pair _ _ refl (neg_zero R);
    add = λ x y. same_pair _ _ refl (neg_add R x.1 y.1);
    mul = conjugate-mul R;
    neg = λ x. refl;
  }

  pub imaginary-square : (gaussian_ring R).mul (R.zero, R.one) (R.zero, R.one)
      ≡ (R.neg R.one, R.zero)
  imaginary-square = same_pair _ _
      (same_sum R _ _ _ _ (mul_zero R R.zero) (ap R.neg (R.laws.mul_one R.one))
      ∙ zero_add R (R.neg R.one))
      (same_sum R _ _ _ _ (R.laws.mul_one R.zero) (mul_zero R R.one) ∙ R.laws.add_zero R.zero)

  sum_below-derivative : (n : ℕ) (f : ℕ → DualElement R)
      → (sum_below (dual_ring R) n f).1 ≡ sum_below R n (λ k. (f k).1)
  sum_below-derivative zero f = refl
  sum_below-derivative (suc n) f = ap (λ c. R.add c (f n).1) (sum_below-derivative n f)

  -- the derivative of a product of matrices
  pub product-derivative : (a b : Plain (dual_ring R))
      → plain_map {S = R} (λ x. x.1) (plain_product (dual_ring R) a b) ≡ plain_sum R
      (plain_product R (plain_map {S = R} (λ x. x.0) a) (plain_map {S = R} (λ x. x.1) b))
      (plain_product R (plain_map {S = R} (λ x. x.1) a) (plain_map {S = R} (λ x. x.0) b))
  product-derivative a b =
      let D = dual_ring R in
      same_plain _ _ refl refl (λ i j. twice (any_below a.cols (λ k. a.has i k && b.has k j)))
      (λ i j. sum_below-derivative a.cols (λ k. D.mul (a.value i k) (b.value k j))
      ∙ sum_below-add R a.cols (λ k. R.mul (a.value i k).0 (b.value k j).1)
      (λ k. R.mul (a.value i k).1 (b.value k j).0))

-- ---- residues

-- reduction modulo a multiple K of the modulus, and then modulo the modulus, is reduction modulo it
module _ (M K : ℕ) (divides : modulus M ∣ K) where
  reduced : (x : ℕ) → mod_class M (x % K) ≡ mod_class M x
  reduced x = mod_same M (x % K) x (mod-mod_of_dvd (modulus M) x divides)

  reduced-add : (x y : ℕ)
      → mod_class M ((x + y) % K) ≡ (mod_ring M).add (mod_class M x) (mod_class M y)
  reduced-add x y = reduced (x + y) ∙ mod_class_add M x y

  reduced-mul : (x y : ℕ)
      → mod_class M ((x * y) % K) ≡ (mod_ring M).mul (mod_class M x) (mod_class M y)
  reduced-mul x y = reduced (x * y) ∙ mod_class_mul M x y

  reduced-neg : (x : ℕ) → x ≤ K → mod_class M ((K - x) % K) ≡ (mod_ring M).neg (mod_class M x)
  reduced-neg x le =
      let R = mod_ring M in
      let whole : x + (K - x) ≡ K = omega arith in
      reduced (K - x)
      ∙ neg_unique R (mod_class M x) (mod_class M (K - x))
      (sym (mod_class_add M x (K - x)) ∙ ap (mod_class M) whole
      ∙ mod_same M K 0 (mod-eq-zero_of_dvd (modulus M) divides ∙ sym (zero-mod (modulus M))))

pub residue_pair-map : (M N : ℕ)
    → IsRingMap (both_ring M N) (pair_ring (mod_ring M) (mod_ring N)) (residue_pair M N)
residue_pair-map M N =
    let K = modulus M * modulus N in
    let left : modulus M ∣ K = dvd-mul_right (modulus M) (modulus N) in
    let right : modulus N ∣ K = dvd-mul_left (modulus N) (modulus M) in
    record {
      zero = same_pair _ _ (reduced M K left 0) (reduced N K right 0);
      one = same_pair _ _ (reduced M K left 1) (reduced N K right 1);
      add = λ c d. same_pair _ _ (reduced-add M K left c.number d.number)
          (reduced-add N K right c.number d.number);
      mul = λ c d. same_pair _ _ (reduced-mul M K left c.number d.number)
          (reduced-mul N K right c.number d.number);
      neg = λ c. let f = c.below in same_pair _ _
          (reduced-neg M K left c.number (omega arith))
          (reduced-neg N K right c.number (omega arith));
    }
