-- The field of two elements.
use Rattle.std.specs.Prelude.{◌≡◌, Bool, true, false, refl}
use Rattle.nalgebra_sparse.specs.Algebra.{RingLaws, CommRing}

abbrev pub bit_not : Bool → Bool
bit_not true = false
bit_not false = true

-- the sum, where one and one are zero
abbrev pub bit_add : Bool → Bool → Bool
bit_add true b = bit_not b
bit_add false b = b

abbrev pub bit_mul : Bool → Bool → Bool
bit_mul true b = b
bit_mul false b = false

-- ---- the laws

add_assoc : (a b c : Bool) → bit_add (bit_add a b) c ≡ bit_add a (bit_add b c)
add_assoc false b c = refl
add_assoc true false c = refl
add_assoc true true false = refl
add_assoc true true true = refl

add_comm : (a b : Bool) → bit_add a b ≡ bit_add b a
add_comm false false = refl
add_comm false true = refl
add_comm true false = refl
add_comm true true = refl

add_zero : (a : Bool) → bit_add a false ≡ a
add_zero false = refl
add_zero true = refl

add_neg : (a : Bool) → bit_add a a ≡ false
add_neg false = refl
add_neg true = refl

mul_assoc : (a b c : Bool) → bit_mul (bit_mul a b) c ≡ bit_mul a (bit_mul b c)
mul_assoc false b c = refl
mul_assoc true b c = refl

mul_comm : (a b : Bool) → bit_mul a b ≡ bit_mul b a
mul_comm false false = refl
mul_comm false true = refl
mul_comm true false = refl
mul_comm true true = refl

mul_one : (a : Bool) → bit_mul a true ≡ a
mul_one false = refl
mul_one true = refl

distrib : (a b c : Bool) → bit_mul a (bit_add b c) ≡ bit_add (bit_mul a b) (bit_mul a c)
distrib false b c = refl
distrib true b c = refl

pub bit_laws : RingLaws false true bit_add bit_mul (λ a. a)
bit_laws = record {
  add_assoc = add_assoc;
  add_comm = add_comm;
  add_zero = add_zero;
  add_neg = add_neg;
  mul_assoc = mul_assoc;
  mul_comm = mul_comm;
  mul_one = mul_one;
  distrib = distrib;
}

abbrev pub bit_ring : CommRing
bit_ring = record {
  Carrier = Bool;
  zero = false;
  one = true;
  add = bit_add;
  mul = bit_mul;
  neg = λ a. a;
  laws = bit_laws;
}
