-- Commutative rings.
use Rattle.std.specs.Prelude.{◌≡◌}

pub record RingLaws {C : Type 0} (zero one : C) (add mul : C → C → C) (neg : C → C) : Type 0 where
  pub add_assoc : (a b c : C) → add (add a b) c ≡ add a (add b c)
  pub add_comm : (a b : C) → add a b ≡ add b a
  pub add_zero : (a : C) → add a zero ≡ a
  pub add_neg : (a : C) → add a (neg a) ≡ zero
  pub mul_assoc : (a b c : C) → mul (mul a b) c ≡ mul a (mul b c)
  pub mul_comm : (a b : C) → mul a b ≡ mul b a
  pub mul_one : (a : C) → mul a one ≡ a
  pub distrib : (a b c : C) → mul a (add b c) ≡ add (mul a b) (mul a c)

pub record CommRing : Type 1 where
  pub Carrier : Type 0
  pub zero : Carrier
  pub one : Carrier
  pub add : Carrier → Carrier → Carrier
  pub mul : Carrier → Carrier → Carrier
  pub neg : Carrier → Carrier
  pub laws : RingLaws zero one add mul neg
