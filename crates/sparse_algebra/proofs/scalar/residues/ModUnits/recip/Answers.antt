use Rattle.std.proofs.Common.{◌≡◌, ℕ, ◌/◌, ◌%◌, ap, sym, ◌∙◌, refl, subst}
use Rattle.std.specs.Int.{IsGcd}
use Rattle.std.proofs.lemmas.Nat.Gcd.{IsGcd-from_zero, IsGcd-from_mod, same_from_IsGcd}
use Rattle.sparse_algebra.proofs.RingLemmas.{mul_zero}
use Rattle.sparse_algebra.specs.Moduli.{modulus, mod_ring, mod_class}
use Rattle.sparse_algebra.proofs.ModClasses.{mod_class_of, mod_class_modulus}
use Rattle.sparse_algebra.proofs.Euclid.{euclid_step, class_split, no_inverse}
use Rattle.sparse_algebra.proofs.scalar.residues.ModUnits.recip.Given.{Over}
use Rattle.sparse_algebra.proofs.scalar.residues.ModUnits.recip.Goals as goal

pub loop-low-init : goal.loop-low-init
loop-low-init g c =
    let m = g.row.M in
    let n = c.args.self.number in
    let R = mod_ring m in
    let x = mod_class m n in
    record {
      high_is = ap (mod_class m) c.modulus-high.ensures ∙ mod_class_modulus m ∙ sym (mul_zero R x)
          ∙ ap (λ z. R.mul x (mod_class m z.number)) (sym c.zero-high_coefficient.ensures);
      low_is = sym (R.laws.mul_one x) ∙ ap (R.mul x) (sym c.one-low_coefficient.ensures);
      gcd = λ d h. subst (λ k. IsGcd k n d) c.modulus-high.ensures h;
    }

pub loop-low-preserved : goal.loop-low-preserved
loop-low-preserved g c =
    let m = g.row.M in
    let R = mod_ring m in
    let x = mod_class m c.args.self.number in
    let s = mod_class m c.loop-low.high_coefficient.number in
    let t = mod_class m c.loop-low.low_coefficient.number in
    let high = c.loop-low.high in
    let low = c.loop-low.low in
    let invariant = c.loop-low.invariant in
    record {
      high_is = invariant.low_is;
      low_is = euclid_step R x s t (mod_class m (high / low)) (mod_class m high) (mod_class m low)
          (mod_class m (high % low)) invariant.high_is invariant.low_is (class_split m high low)
          ∙ ap (R.mul x)
          (sym (c.add-rest_coefficient.ensures ∙ ap (R.add s)
          (c.neg.ensures ∙ ap R.neg (c.mul.ensures
          ∙ ap (λ z. R.mul z t) (mod_class_of m (high / low) _ c.new-quotient.ensures)))));
      gcd = λ d h. invariant.gcd d (IsGcd-from_mod high low d h);
    }

-- if the greatest common divisor is one, its Bezout coefficient is the inverse
inverse : (g : Over) (c : goal.Then-high-eq1 g)
    → (mod_ring g.row.M).mul (mod_class g.row.M c.args.self.number)
    (mod_class g.row.M c.loop-low.high_coefficient.number) ≡ (mod_ring g.row.M).one
inverse g c = sym c.loop-low.invariant.high_is ∙ ap (mod_class g.row.M) c.if-high-eq1.true

-- the last nonzero number is the greatest common divisor
last_is_gcd : (m n high low : ℕ) → ((d : ℕ) → IsGcd high low d → IsGcd m n d) → low ≡ 0
    → IsGcd m n high
last_is_gcd m n high low gcd none = gcd high (IsGcd-from_zero high low none)

pub returns-then-high-eq1 : goal.returns-then-high-eq1
returns-then-high-eq1 g c =
    let m = modulus g.row.M in
    let n = c.args.self.number in
    let last = last_is_gcd m n c.loop-low.high c.loop-low.low c.loop-low.invariant.gcd
    c.loop-low-test.false in
    record {
      inverse = inverse g c;
      exact = (λ _. (c.loop-low.high_coefficient, inverse g c), λ _. refl);
      coprime = (λ _. subst (λ d. IsGcd m n d) c.if-high-eq1.true last, λ _. refl);
    }

pub returns-else-high-eq1 : goal.returns-else-high-eq1
returns-else-high-eq1 g c =
    let m = modulus g.row.M in
    let n = c.args.self.number in
    let high = c.loop-low.high in
    let last = last_is_gcd m n high c.loop-low.low c.loop-low.invariant.gcd c.loop-low-test.false in
    record {
      inverse = tt;
      exact = (
        λ none. cc,
        λ some. absurd
            (c.if-high-eq1.false (no_inverse g.row.M n some.0.number high last.0 last.1 some.1)),
      );
      coprime = (
        λ none. cc,
        λ one. absurd (c.if-high-eq1.false (same_from_IsGcd m n high 1 last one)),
      );
    }
