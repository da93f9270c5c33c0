-- The ring of integers, and its relation to the wrapping integers.
use Rattle.std.specs.Prelude.{◌≡◌, ℕ, ◌+◌, ◌*◌, ◌^◌, ℤ, pos, ◌+ℤ◌, ◌*ℤ◌}
use Rattle.std.specs.Int.{Width, cast_signed, int_wrap}
use Rattle.std.specs.Int.RustNames.{FitsSigned}
use Rattle.std.proofs.Common.{ap, arith}
use Rattle.std.proofs.lemmas.Int.{ints}
use lib.IntN.{neg_ℤ}
use borrow.Author.Differences.{up, down, same_in, sum_is_lem, product_is}
use mir.Val.{bits}
use Rattle.sparse_algebra.specs.Algebra.{RingLaws, CommRing}
use Rattle.sparse_algebra.specs.Plain.{Plain}
use Rattle.sparse_algebra.specs.Residues.{Residue}
use Rattle.sparse_algebra.specs.RingMaps.{plain_map}
use Rattle.sparse_algebra.specs.Wrapping.{wrapping_ring, class_of}

whole_mul_assoc : (a b c : ℤ) → (a *ℤ b) *ℤ c ≡ a *ℤ (b *ℤ c)
whole_mul_assoc a b c =
    let ab = product_is a b in
    let bc = product_is b c in
    let times = λ (k : ℕ) (m n : ℕ) (e : m ≡ n). ap (λ x. x * k) e in
    let ups : up ((a *ℤ b) *ℤ c) ≡ up (a *ℤ (b *ℤ c)) =
    omega (
      arith,
      product_is (a *ℤ b) c,
      product_is a (b *ℤ c),
      times (up c) _ _ ab.0,
      times (down c) _ _ ab.1,
      times (up a) _ _ bc.0,
      times (down a) _ _ bc.1,
    ) in
    let downs : down ((a *ℤ b) *ℤ c) ≡ down (a *ℤ (b *ℤ c)) =
    omega (
      arith,
      product_is (a *ℤ b) c,
      product_is a (b *ℤ c),
      times (down c) _ _ ab.0,
      times (up c) _ _ ab.1,
      times (down a) _ _ bc.0,
      times (up a) _ _ bc.1,
    ) in
    same_in _ _ (omega arith)

whole_distrib : (a b c : ℤ) → a *ℤ (b +ℤ c) ≡ a *ℤ b +ℤ a *ℤ c
whole_distrib a b c =
    let times = λ (k : ℕ) (m n : ℕ) (e : m ≡ n). ap (λ x. x * k) e in
    let sum = sum_is_lem b c in
    let both : up (a *ℤ (b +ℤ c)) + down (a *ℤ b +ℤ a *ℤ c) ≡ up (a *ℤ b +ℤ a *ℤ c) + down
    (a *ℤ (b +ℤ c)) =
    omega (
      arith,
      product_is a (b +ℤ c),
      product_is a b,
      product_is a c,
      sum_is_lem (a *ℤ b) (a *ℤ c),
      times (up a) _ _ sum,
      times (down a) _ _ sum,
    ) in
    same_in _ _ both

pub whole_laws : RingLaws (pos 0) (pos 1) ◌+ℤ◌ ◌*ℤ◌ neg_ℤ
whole_laws = record {
  add_assoc = λ a b c. omega (arith, ints);
  add_comm = λ a b. omega (arith, ints);
  add_zero = λ a. omega (arith, ints);
  add_neg = λ a. omega (arith, ints);
  mul_assoc = whole_mul_assoc;
  mul_comm = λ a b. omega (arith, ints);
  mul_one = λ a. omega (arith, ints);
  distrib = whole_distrib;
}

-- the ring of integers
abbrev pub whole_ring : CommRing
whole_ring = record {
  Carrier = ℤ;
  zero = pos 0;
  one = pos 1;
  add = ◌+ℤ◌;
  mul = ◌*ℤ◌;
  neg = neg_ℤ;
  laws = whole_laws;
}

-- the class of an integer
abbrev pub wrapped : (w : Width) → ℤ → Residue (2 ^ bits w)
wrapped w z = class_of w (int_wrap w z)

-- the signed representative of a class
abbrev pub number_of : (w : Width) → Residue (2 ^ bits w) → ℤ
number_of w c = cast_signed w c.number

-- each value reduced to its class
abbrev pub plain_wrapped : (w : Width) → Plain whole_ring → Plain (wrapping_ring w)
plain_wrapped w a = plain_map (wrapped w) a

-- the signed representative of each value
abbrev pub plain_numbers : (w : Width) → Plain (wrapping_ring w) → Plain whole_ring
plain_numbers w a = plain_map (number_of w) a

-- a has the integers of z wherever they fit: if the integer of z at a pair is in the signed range, it
-- is the signed representative of the value of a there
abbrev pub Shows : (w : Width) → Plain (wrapping_ring w) → Plain whole_ring → Type 0
Shows w a z = (i j : ℕ) → FitsSigned w (z.value i j) → number_of w (a.value i j) ≡ z.value i j
