-- The product of two commutative rings: pairs, with every operation in each part.
use Rattle.sparse_algebra.specs.Algebra.{RingLaws, CommRing}
use Rattle.sparse_rings.specs.InnerPairs.{same_pair}

module _ (R S : CommRing) where
  abbrev pub PairElement : Type 0
  PairElement = R.Carrier × S.Carrier

  abbrev pub pair_add : PairElement → PairElement → PairElement
  pair_add x y = (R.add x.0 y.0, S.add x.1 y.1)

  abbrev pub pair_mul : PairElement → PairElement → PairElement
  pair_mul x y = (R.mul x.0 y.0, S.mul x.1 y.1)

  abbrev pub pair_neg : PairElement → PairElement
  pair_neg x = (R.neg x.0, S.neg x.1)

  pub pair_laws : RingLaws (R.zero, S.zero) (R.one, S.one) pair_add pair_mul pair_neg
  pair_laws = record {
    add_assoc = λ x y z. same_pair _ _ (R.laws.add_assoc x.0 y.0 z.0) (S.laws.add_assoc x.1 y.1 z.1);
    add_comm = λ x y. same_pair _ _ (R.laws.add_comm x.0 y.0) (S.laws.add_comm x.1 y.1);
    add_zero = λ x. same_pair _ _ (R.laws.add_zero x.0) (S.laws.add_zero x.1);
    add_neg = λ x. same_pair _ _ (R.laws.add_neg x.0) (S.laws.add_neg x.1);
    mul_assoc = λ x y z. same_pair _ _ (R.laws.mul_assoc x.0 y.0 z.0) (S.laws.mul_assoc x.1 y.1 z.1);
    mul_comm = λ x y. same_pair _ _ (R.laws.mul_comm x.0 y.0) (S.laws.mul_comm x.1 y.1);
    mul_one = λ x. same_pair _ _ (R.laws.mul_one x.0) (S.laws.mul_one x.1);
    distrib = λ x y z. same_pair _ _ (R.laws.distrib x.0 y.0 z.0) (S.laws.distrib x.1 y.1 z.1);
  }

  abbrev pub pair_ring : CommRing
  pair_ring = record {
    Carrier = PairElement;
    zero = (R.zero, S.zero);
    one = (R.one, S.one);
    add = pair_add;
    mul = pair_mul;
    neg = pair_neg;
    laws = pair_laws;
  }
