-- Ring elements with a sign.
use Rattle.std.specs.Prelude.{Bool, true, false}
use Rattle.sparse_algebra.specs.Algebra.{CommRing}
use Rattle.sparse_algebra.specs.Plain.{Plain}

-- the negative of the element if the test is true, else the element
abbrev pub signed : (R : CommRing) → Bool → R.Carrier → R.Carrier
signed R true c = R.neg c
signed R false c = c

-- the plain matrix with each value so signed
abbrev pub plain_signed : (R : CommRing) → Bool → Plain R → Plain R
plain_signed R negate a = record {
  rows = a.rows;
  cols = a.cols;
  has = a.has;
  value =
      λ i j. signed R negate (a.value i j);
}
