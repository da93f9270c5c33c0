-- The images of the integers in a commutative ring.
use Rattle.std.specs.Prelude.{ℕ, zero, suc, ℤ, pos, negsuc}
use Rattle.sparse_algebra.specs.Algebra.{CommRing}

-- n times one
unfoldable pub times_one : (R : CommRing) → ℕ → R.Carrier
times_one R zero = R.zero
times_one R (suc n) = R.add (times_one R n) R.one

-- an integer times one
unfoldable pub element_of : (R : CommRing) → ℤ → R.Carrier
element_of R (pos n) = times_one R n
element_of R (negsuc n) = R.neg (times_one R (suc n))
