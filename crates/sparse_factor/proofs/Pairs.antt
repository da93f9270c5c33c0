-- The test that two pairs of numbers are equal.
use Rattle.std.proofs.Common.{◌≡◌, ℕ, Bool, true, ◌&&◌, refl, sym, ap}
use Rattle.std.proofs.Math.Dec.{eqb}
use Rattle.std.specs.Bool.{Decides}
use Rattle.std.specs.Cmp.{IsEquivalence}
use Rattle.std.proofs.lemmas.Bool.{eqb-true, eq-eqb}
use Rattle.std.proofs.lemmas.Bool.Decides.{same_from_decides}
use Rattle.sparse_algebra.proofs.Cases.{and_parts}

abbrev pub pair : ℕ → ℕ → ℕ × ℕ
pair i j = (i, j)

pub pair_eq : ℕ × ℕ → ℕ × ℕ → Bool
pair_eq p q = eqb p.0 q.0 && eqb p.1 q.1

pub same_pair : (p q : ℕ × ℕ) → Decides (pair_eq p q) (p ≡ q)
unfolding pair_eq
same_pair (a, b) (c, d) = (
  λ h.
      let (x, y) = and_parts (eqb a c) (eqb b d) h in
      let e : a ≡ c = eqb-true a c x in
      let f : b ≡ d = eqb-true b d y in
      cc,
  λ e.
      let x : eqb a c ≡ true = eq-eqb a c (ap (λ p. p.0) e) in
      let y : eqb b d ≡ true = eq-eqb b d (ap (λ p. p.1) e) in
      rw (x, y),
)

pub pair_laws : IsEquivalence pair_eq
pair_laws = record {
  refl = λ p. (same_pair p p).1 refl;
  symm = λ p q. same_from_decides (pair_eq p q) (pair_eq q p) (same_pair p q)
      (λ h. sym ((same_pair q p).0 h), λ e. (same_pair q p).1 (sym e));
  congr = λ p q r h. ap (λ x. pair_eq x r) ((same_pair p q).0 h);
}
