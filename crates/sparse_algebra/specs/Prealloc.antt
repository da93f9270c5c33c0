-- Updates of a matrix C whose structure stays as it is, such as C = beta C + alpha A B.
use Rattle.std.specs.Prelude.{◌≡◌, ℕ, Bool, true, false}
use Rattle.sparse_algebra.specs.Algebra.{CommRing}
use Rattle.sparse_algebra.specs.Plain.{Plain, plain_transpose}

-- beta C + alpha X, on the places of C
abbrev pub plain_update : (R : CommRing) → R.Carrier → Plain R → R.Carrier → Plain R → Plain R
plain_update R beta c alpha x = record {
  rows = c.rows;
  cols = c.cols;
  has = c.has;
  value = λ i j. R.add (R.mul beta (c.value i j)) (R.mul alpha (x.value i j));
}

-- each place of x is a place of c
abbrev pub IsCovered : {R : CommRing} → Plain R → Plain R → Type 0
IsCovered x c = (i j : ℕ) → x.has i j ≡ true → c.has i j ≡ true

-- the matrix, transposed if the test is true
abbrev pub plain_transpose_if : (R : CommRing) → Bool → Plain R → Plain R
plain_transpose_if R true a = plain_transpose R a
plain_transpose_if R false a = a
