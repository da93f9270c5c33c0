-- Dual numbers over a commutative ring: pairs (a, b), read as a + b e with e e = 0.
use Rattle.std.specs.Prelude.{◌≡◌}
use Rattle.std.proofs.Common.{sym, ap, ◌∙◌}
use Rattle.nalgebra_sparse.specs.Algebra.{RingLaws, CommRing}
use Rattle.nalgebra_sparse.specs.RingLemmas

module _ (R : CommRing) where
  abbrev pub Pair : Type 0
  Pair = R.Carrier × R.Carrier

  abbrev pub dual_add : Pair → Pair → Pair
  dual_add x y = (R.add x.0 y.0, R.add x.1 y.1)

  abbrev pub dual_mul : Pair → Pair → Pair
  dual_mul x y = (R.mul x.0 y.0, R.add (R.mul x.0 y.1) (R.mul x.1 y.0))

  abbrev pub dual_neg : Pair → Pair
  dual_neg x = (R.neg x.0, R.neg x.1)

  pub pair_same : (x y : Pair) → x.0 ≡ y.0 → x.1 ≡ y.1 → x ≡ y
  pair_same x y p q = ap (λ a. (a, x.1)) p ∙ ap (λ b. (y.0, b)) q

  pair_sum : (a b c d : R.Carrier) → a ≡ b → c ≡ d → R.add a c ≡ R.add b d
  pair_sum a b c d p q = ap (λ x. R.add x c) p ∙ ap (R.add b) q

  times_right : (p q e : R.Carrier) → R.mul (R.add p q) e ≡ R.add (R.mul p e) (R.mul q e)
  times_right p q e = R.laws.mul_comm (R.add p q) e ∙ R.laws.distrib e p q
      ∙ pair_sum (R.mul e p) (R.mul p e) (R.mul e q) (R.mul q e) (R.laws.mul_comm e p)
      (R.laws.mul_comm e q)

  slopes : (a b c d e f : R.Carrier)
      → R.add (R.mul (R.mul a c) f) (R.mul (R.add (R.mul a d) (R.mul b c)) e)
      ≡ R.add (R.mul a (R.add (R.mul c f) (R.mul d e))) (R.mul b (R.mul c e))
  slopes a b c d e f =
      let left : R.mul (R.add (R.mul a d) (R.mul b c)) e
      ≡ R.add (R.mul a (R.mul d e)) (R.mul b (R.mul c e)) =
      times_right (R.mul a d) (R.mul b c) e
      ∙ pair_sum _ _ _ _ (R.laws.mul_assoc a d e) (R.laws.mul_assoc b c e) in
      pair_sum _ _ _ _ (R.laws.mul_assoc a c f) left
      ∙ sym (R.laws.add_assoc (R.mul a (R.mul c f)) (R.mul a (R.mul d e)) (R.mul b (R.mul c e)))
      ∙ ap (λ x. R.add x (R.mul b (R.mul c e))) (sym (R.laws.distrib a (R.mul c f) (R.mul d e)))

  crossed : (a b c d : R.Carrier)
      → R.add (R.mul a d) (R.mul b c) ≡ R.add (R.mul c b) (R.mul d a)
  crossed a b c d = R.laws.add_comm (R.mul a d) (R.mul b c)
      ∙ pair_sum _ _ _ _ (R.laws.mul_comm b c) (R.laws.mul_comm a d)

  ones : (a b : R.Carrier) → R.add (R.mul a R.zero) (R.mul b R.one) ≡ b
  ones a b = pair_sum _ _ _ _ (RingLemmas.mul_zero R a) (R.laws.mul_one b)
      ∙ R.laws.add_comm R.zero b ∙ R.laws.add_zero b

  spread : (a b c d e f : R.Carrier)
      → R.add (R.mul a (R.add d f)) (R.mul b (R.add c e))
      ≡ R.add (R.add (R.mul a d) (R.mul b c)) (R.add (R.mul a f) (R.mul b e))
  spread a b c d e f = pair_sum _ _ _ _ (R.laws.distrib a d f) (R.laws.distrib b c e)
      ∙ RingLemmas.add_cross R (R.mul a d) (R.mul a f) (R.mul b c) (R.mul b e)

  pub dual_laws : RingLaws (R.zero, R.zero) (R.one, R.zero) dual_add dual_mul dual_neg
  dual_laws = record {
    add_assoc = λ x y z. pair_same _ _ (R.laws.add_assoc x.0 y.0 z.0) (R.laws.add_assoc x.1 y.1 z.1);
    add_comm = λ x y. pair_same _ _ (R.laws.add_comm x.0 y.0) (R.laws.add_comm x.1 y.1);
    add_zero = λ x. pair_same _ _ (R.laws.add_zero x.0) (R.laws.add_zero x.1);
    add_neg = λ x. pair_same _ _ (R.laws.add_neg x.0) (R.laws.add_neg x.1);
    mul_assoc = λ x y z. pair_same _ _ (R.laws.mul_assoc x.0 y.0 z.0)
        (slopes x.0 x.1 y.0 y.1 z.0 z.1);
    mul_comm = λ x y. pair_same _ _ (R.laws.mul_comm x.0 y.0) (crossed x.0 x.1 y.0 y.1);
    mul_one = λ x. pair_same _ _ (R.laws.mul_one x.0) (ones x.0 x.1);
    distrib = λ x y z. pair_same _ _ (R.laws.distrib x.0 y.0 z.0)
        (spread x.0 x.1 y.0 y.1 z.0 z.1);
  }

  abbrev pub dual_ring : CommRing
  dual_ring = record {
    Carrier = Pair;
    zero = (R.zero, R.zero);
    one = (R.one, R.zero);
    add = dual_add;
    mul = dual_mul;
    neg = dual_neg;
    laws = dual_laws;
  }
