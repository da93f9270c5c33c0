-- The quotient of a type by an equivalence `eq` that the ring operations respect. It is a
-- commutative ring.
use Rattle.std.specs.Prelude.{◌≡◌, Bool, true, ◌↔◌}
use mathlib.Core.Bool.{Bool-set}
use mathlib.Core.HProp.{HProp}
use mathlib.Core.Quot.{Quot, mk, sound, ind, lift, lift_prop, Quot-set}
use Rattle.std.proofs.Common.{subst}
use Rattle.sparse_algebra.specs.Algebra.{RingLaws, CommRing}

-- the ring laws up to `eq`, which is an equivalence that the operations respect
pub record LawsUpTo {C : Type 0} (eq : C → C → Bool) (zero one : C) (add mul : C → C → C)
    (neg : C → C) : Type 0 where
  pub reflexive : (x : C) → eq x x ≡ true
  pub symmetric : (x y : C) → eq x y ≡ true → eq y x ≡ true
  pub transitive : (x y z : C) → eq x y ≡ true → eq y z ≡ true → eq x z ≡ true
  pub add_same : (a b c d : C) → eq a b ≡ true → eq c d ≡ true → eq (add a c) (add b d) ≡ true
  pub mul_same : (a b c d : C) → eq a b ≡ true → eq c d ≡ true → eq (mul a c) (mul b d) ≡ true
  pub neg_same : (a b : C) → eq a b ≡ true → eq (neg a) (neg b) ≡ true
  pub add_assoc : (a b c : C) → eq (add (add a b) c) (add a (add b c)) ≡ true
  pub add_comm : (a b : C) → eq (add a b) (add b a) ≡ true
  pub add_zero : (a : C) → eq (add a zero) a ≡ true
  pub add_neg : (a : C) → eq (add a (neg a)) zero ≡ true
  pub mul_assoc : (a b c : C) → eq (mul (mul a b) c) (mul a (mul b c)) ≡ true
  pub mul_comm : (a b : C) → eq (mul a b) (mul b a) ≡ true
  pub mul_one : (a : C) → eq (mul a one) a ≡ true
  pub distrib : (a b c : C) → eq (mul a (add b c)) (add (mul a b) (mul a c)) ≡ true

module _ {C : Type 0} {eq : C → C → Bool} {zero one : C} {add mul : C → C → C} {neg : C → C}
    (l : LawsUpTo eq zero one add mul neg) where
  abbrev pub Class : Type 0
  Class = Quot (λ (x y : C). eq x y ≡ true)

  abbrev pub class : C → Class
  class x = mk x

  pub class_set : IsSet Class
  class_set = Quot-set

  abbrev pub class_map : (f : C → C) → ((a b : C) → eq a b ≡ true → eq (f a) (f b) ≡ true) → Class
      → Class
  class_map f h p = lift class_set (λ a. class (f a)) (λ a b e. sound (h a b e)) p

  abbrev pub class_map2 : (f : C → C → C)
      → ((a b c d : C) → eq a b ≡ true → eq c d ≡ true → eq (f a c) (f b d) ≡ true) → Class → Class
      → Class
  class_map2 f h p q =
      lift class_set (λ a. lift class_set (λ b. class (f a b))
      (λ b c e. sound (h a a b c (l.reflexive a) e)) q)
      (λ a b e. ind
      (λ q. class_set (lift class_set (λ c. class (f a c))
      (λ c d k. sound (h a a c d (l.reflexive a) k)) q)
      (lift class_set (λ c. class (f b c)) (λ c d k. sound (h b b c d (l.reflexive b) k)) q))
      (λ c. sound (h a b c c e (l.reflexive c))) q) p

  abbrev pub class_neg : Class → Class
  class_neg = class_map neg l.neg_same

  abbrev pub class_add : Class → Class → Class
  class_add = class_map2 add l.add_same

  abbrev pub class_mul : Class → Class → Class
  class_mul = class_map2 mul l.mul_same

  -- two functions on classes are equal if they agree on the class of each element
  same_one : (f g : Class → Class) → ((a : C) → f (class a) ≡ g (class a)) → (p : Class) → f p ≡ g p
  same_one f g h p = ind {β = λ p. f p ≡ g p} (λ p. class_set (f p) (g p)) h p

  same_two : (f g : Class → Class → Class)
      → ((a b : C) → f (class a) (class b) ≡ g (class a) (class b)) → (p q : Class) → f p q ≡ g p q
  same_two f g h p q = same_one (λ p. f p q) (λ p. g p q)
      (λ a. same_one (f (class a)) (g (class a)) (h a) q) p

  same_three : (f g : Class → Class → Class → Class)
      → ((a b c : C) → f (class a) (class b) (class c) ≡ g (class a) (class b) (class c))
      → (p q r : Class) → f p q r ≡ g p q r
  same_three f g h p q r = same_one (λ p. f p q r) (λ p. g p q r)
      (λ a. same_two (f (class a)) (g (class a)) (h a) q r) p

  pub class_laws : RingLaws (class zero) (class one) class_add class_mul class_neg
  class_laws = record {
    add_assoc = same_three (λ p q r. class_add (class_add p q) r)
        (λ p q r. class_add p (class_add q r)) (λ a b c. sound (l.add_assoc a b c));
    add_comm = same_two (λ p q. class_add p q) (λ p q. class_add q p)
        (λ a b. sound (l.add_comm a b));
    add_zero = same_one (λ p. class_add p (class zero)) (λ p. p) (λ a. sound (l.add_zero a));
    add_neg = same_one (λ p. class_add p (class_neg p)) (λ p. class zero)
        (λ a. sound (l.add_neg a));
    mul_assoc = same_three (λ p q r. class_mul (class_mul p q) r)
        (λ p q r. class_mul p (class_mul q r)) (λ a b c. sound (l.mul_assoc a b c));
    mul_comm = same_two (λ p q. class_mul p q) (λ p q. class_mul q p)
        (λ a b. sound (l.mul_comm a b));
    mul_one = same_one (λ p. class_mul p (class one)) (λ p. p) (λ a. sound (l.mul_one a));
    distrib = same_three (λ p q r. class_mul p (class_add q r))
        (λ p q r. class_add (class_mul p q) (class_mul p r)) (λ a b c. sound (l.distrib a b c));
  }

  abbrev pub class_ring : CommRing
  class_ring = record {
    Carrier = Class;
    zero = class zero;
    one = class one;
    add = class_add;
    mul =
        class_mul;
    neg = class_neg;
    laws = class_laws;
  }

  rel_to : C → Class → HProp {0}
  rel_to a = lift_prop (λ x. (eq a x ≡ true, Bool-set (eq a x) true))
      (λ x y p. (λ h. l.transitive a x y h p, λ h. l.transitive a y x h (l.symmetric x y p)))

  -- `eq` decides whether two elements have the same class
  pub class_decides : (x y : C) → (eq x y ≡ true) ↔ (class x ≡ class y)
  unfolding rel_to
  class_decides x y = (λ e. sound e, λ e. subst (λ q. (rel_to x q).0) e (l.reflexive x))
