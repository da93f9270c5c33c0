-- The zero ring, which has one element.
use Rattle.sparse_algebra.specs.Algebra.{CommRing}

abbrev pub zero_ring : CommRing
zero_ring = record {
  Carrier = Unit;
  zero = tt;
  one = tt;
  add = λ _ _. tt;
  mul = λ _ _. tt;
  neg = λ _. tt;
  laws = record {
    add_assoc = λ _ _ _ _. tt;
    add_comm = λ _ _ _. tt;
    add_zero = λ _ _. tt;
    add_neg = λ _ _. tt;
    mul_assoc = λ _ _ _ _. tt;
    mul_comm = λ _ _ _. tt;
    mul_one = λ _ _. tt;
    distrib = λ _ _ _ _. tt;
  };
}
