-- The extended Euclidean algorithm over residues, and residues without an inverse.
use Rattle.std.proofs.Common.{◌≡◌, ℕ, ◌*◌, ◌/◌, ◌%◌, sym, ap, ◌∙◌, subst}
use Rattle.std.specs.Int.{◌∣◌}
use Rattle.std.proofs.Math.Nat.{dvd-mod_iff, dvd-mul_right_of_dvd, eq-one_of_dvd-one, div-add-mod'}
use Rattle.sparse_algebra.specs.Algebra.{CommRing}
use Rattle.sparse_algebra.specs.Residues.{mul-mod_left, mul-mod_right}
use Rattle.sparse_algebra.specs.Moduli.{modulus, mod_ring, mod_class}
use Rattle.sparse_algebra.proofs.ModClasses.{mod_class_add, mod_class_mul}
use Rattle.sparse_algebra.proofs.Products.{mul_neg, mul_swap}

-- if a = x s, b = x t and a = q b + c, then c = x (s - q t)
pub euclid_step : (R : CommRing) (x s t q a b c : R.Carrier) → a ≡ R.mul x s → b ≡ R.mul x t
    → a ≡ R.add (R.mul q b) c → c ≡ R.mul x (R.add s (R.neg (R.mul q t)))
euclid_step R x s t q a b c e f h =
    let p : R.Carrier = R.mul q b in
    let moved : R.mul x (R.neg (R.mul q t)) ≡ R.neg p = mul_neg R x (R.mul q t)
    ∙ ap R.neg (mul_swap R x q t ∙ ap (R.mul q) (sym f)) in
    sym (R.laws.distrib x s (R.neg (R.mul q t)) ∙ ap (R.add (R.mul x s)) moved
    ∙ ap (λ y. R.add y (R.neg p)) (sym e ∙ h ∙ R.laws.add_comm p c)
    ∙ R.laws.add_assoc c p (R.neg p) ∙ ap (R.add c) (R.laws.add_neg p) ∙ R.laws.add_zero c)

-- a = (a / b) b + a % b, as residues
pub class_split : (m a b : ℕ)
    → mod_class m a ≡ (mod_ring m).add ((mod_ring m).mul (mod_class m (a / b)) (mod_class m b))
    (mod_class m (a % b))
class_split m a b =
    ap (mod_class m) (sym (div-add-mod' a b)) ∙ mod_class_add m (a / b * b) (a % b)
    ∙ ap (λ c. (mod_ring m).add c (mod_class m (a % b))) (mod_class_mul m (a / b) b)

-- if x has an inverse, each common divisor of x and the modulus is 1
pub no_inverse : (m x y g : ℕ) → g ∣ modulus m → g ∣ x
    → (mod_ring m).mul (mod_class m x) (mod_class m y) ≡ (mod_ring m).one → g ≡ 1
no_inverse m x y g p q e =
    let n = modulus m in
    let product : (x * y) % n ≡ 1 % n = sym (mul-mod_left x (y % n) n ∙ mul-mod_right x y n)
    ∙ ap (λ r. r.number) e in
    let divides : g ∣ 1 % n = subst (λ k. g ∣ k) product
    ((dvd-mod_iff g p).1 (dvd-mul_right_of_dvd g q y)) in
    eq-one_of_dvd-one ((dvd-mod_iff g p).0 divides)
