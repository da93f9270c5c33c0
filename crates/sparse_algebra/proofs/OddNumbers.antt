-- Odd and even residues modulo a power of two.
use Rattle.std.proofs.Common.{◌≡◌, ℕ, zero, suc, ◌+◌, ◌*◌, ◌/◌, ◌%◌, ◌^◌, ◌≢◌, sym, ap, ◌∙◌, refl}
use Rattle.std.proofs.Common.{arith, subst}
use Rattle.std.specs.Prelude.{ℤ}
use Rattle.std.specs.Int.{Width, w8, w16, w32, w64, w128, ◌∣◌, cast_unsigned}
use Rattle.std.proofs.Math.Nat.{dvd-mod_iff, dvd-mul_right_of_dvd, eq-one_of_dvd-one, mod_self}
use Rattle.std.proofs.Math.Nat.{zero-mod, add-mod, pow-suc, dvd_of_mod-eq-zero}
use Rattle.std.proofs.Math.Pow.{pow_pos, pow-add}
use Rattle.std.specs.Int.RustNames.{FitsSigned}
use Rattle.std.proofs.lemmas.Int.{to_z-of_z}
use mir.Val.{bits, to_z}
use Rattle.sparse_algebra.specs.Residues.{Residue, residue, same_class, mul-mod_left, mul-mod_right}
use Rattle.sparse_algebra.specs.Wrapping.{wrapping_ring, class_of}
use Rattle.sparse_algebra.proofs.RingLemmas.{zero_mul}
use Rattle.sparse_algebra.specs.Inverses.{HasInverse}
use Rattle.sparse_algebra.specs.InnerNewton.{squared, one_minus}
use Rattle.sparse_algebra.proofs.NewtonSteps.{one_minus-odd, squared-mul, one_from_no_residual}

two_divides : (w : Width) → 2 ∣ 2 ^ bits w
two_divides w8 = dvd_of_mod-eq-zero 2 (omega arith)
two_divides w16 = dvd_of_mod-eq-zero 2 (omega arith)
two_divides w32 = dvd_of_mod-eq-zero 2 (omega arith)
two_divides w64 = dvd_of_mod-eq-zero 2 (omega arith)
two_divides w128 = dvd_of_mod-eq-zero 2 (omega arith)

-- the residue class of n
abbrev pub bits_class : (w : Width) → ℕ → Residue (2 ^ bits w)
bits_class w n = residue (2 ^ bits w) (pow_pos (bits w)) n

squared-two : (w : Width) (n : ℕ)
    → squared (wrapping_ring w) n (bits_class w 2) ≡ bits_class w (2 ^ (2 ^ n))
squared-two w zero = refl
squared-two w (suc n) =
    let m = 2 ^ bits w in
    let k = 2 ^ (2 ^ n) in
    ap (λ z. (wrapping_ring w).mul z z) (squared-two w n)
    ∙ same_class m (pow_pos (bits w)) _ _ (mul-mod_left k (k % m) m ∙ mul-mod_right k k m
    ∙ ap (λ z. z % m) (sym (pow-add 2 (2 ^ n) (2 ^ n))
    ∙ ap (λ z. 2 ^ z) (omega (arith, pow-suc 2 n))))

odd_class : (w : Width) (u : ℕ) → u % 2 ≡ 1
    → bits_class w u ≡ (wrapping_ring w).add
    ((wrapping_ring w).mul (bits_class w 2) (bits_class w (u / 2))) (wrapping_ring w).one
odd_class w u h =
    let m = 2 ^ bits w in
    let split : u ≡ 2 * (u / 2) + 1 = omega arith in
    same_class m (pow_pos (bits w)) _ _ (ap (λ z. z % m) split ∙ add-mod (2 * (u / 2)) 1 m
    ∙ ap (λ z. (z + 1 % m) % m)
    (sym (mul-mod_left 2 ((u / 2) % m) m ∙ mul-mod_right 2 (u / 2) m)))

-- for odd u the residual after n steps is zero, if 2 ^ n is the width
no_residual : (w : Width) (n : ℕ) (u : ℕ) → 2 ^ n ≡ bits w → u % 2 ≡ 1
    → squared (wrapping_ring w) n (one_minus (wrapping_ring w) (bits_class w u))
    ≡ (wrapping_ring w).zero
no_residual w n u e h =
    let R = wrapping_ring w in
    let m = 2 ^ bits w in
    let q = bits_class w (u / 2) in
    ap (squared R n) (one_minus-odd R (bits_class w 2) q (bits_class w u) (odd_class w u h))
    ∙ squared-mul R n (bits_class w 2) (R.neg q)
    ∙ ap (λ z. R.mul z (squared R n (R.neg q))) (squared-two w n ∙ ap (λ z. bits_class w (2 ^ z)) e
    ∙ same_class m (pow_pos (bits w)) _ _ (mod_self m ∙ sym (zero-mod m)))
    ∙ zero_mul R (squared R n (R.neg q))

-- an even number has no inverse among the residues
even_product_not_one : (w : Width) (u v : ℕ) → u % 2 ≡ 0
    → (wrapping_ring w).mul (bits_class w u) (bits_class w v) ≢ (wrapping_ring w).one
even_product_not_one w u v h e =
    let m = 2 ^ bits w in
    let product : (u * v) % m ≡ 1 % m = sym (mul-mod_left u (v % m) m ∙ mul-mod_right u v m)
    ∙ ap (λ r. r.number) e in
    let whole : 2 ∣ m = two_divides w in
    let divides : 2 ∣ 1 % m = subst (λ k. 2 ∣ k) product
    ((dvd-mod_iff 2 whole).1 (dvd-mul_right_of_dvd 2 (dvd_of_mod-eq-zero 2 h) v)) in
    let one : ◌≡◌ {A = ℕ} 2 1 = eq-one_of_dvd-one ((dvd-mod_iff 2 whole).0 divides) in
    absurd (omega arith)

-- no scalar represents an inverse of an even number
pub even_has_no_inverse : (w : Width) {T : Type 0} (number : T → ℤ) (x : ℤ) → cast_unsigned w x % 2 ≡ 0
    → HasInverse (wrapping_ring w) (λ y. class_of w (number y)) (class_of w x) → ⊥
even_has_no_inverse w number x h inverse = even_product_not_one w (cast_unsigned w x)
    (cast_unsigned w (number inverse.0)) h inverse.1

-- for odd x, n steps of Newton's iteration give an inverse
pub odd_inverse : (w : Width) (n : ℕ) (x y : ℤ) → 2 ^ n ≡ bits w → cast_unsigned w x % 2 ≡ 1
    → one_minus (wrapping_ring w) ((wrapping_ring w).mul (class_of w x) (class_of w y)) ≡ squared
    (wrapping_ring w) n (one_minus (wrapping_ring w) (class_of w x))
    → (wrapping_ring w).mul (class_of w x) (class_of w y) ≡ (wrapping_ring w).one
odd_inverse w n x y e h steps = one_from_no_residual (wrapping_ring w) _
    (steps ∙ no_residual w n (cast_unsigned w x) e h)

-- the unsigned reading u of the number that `get` returned is that of the scalar's own number
pub unsigned_of_get : (w : Width) (u : ℕ) (shown x : ℤ) → FitsSigned w x → shown ≡ x
    → u ≡ cast_unsigned w (to_z w (cast_unsigned w shown)) → u ≡ cast_unsigned w x
unsigned_of_get w u shown x fits same is = is
    ∙ ap (cast_unsigned w) (ap (λ z. to_z w (cast_unsigned w z)) same ∙ to_z-of_z w x fits)
