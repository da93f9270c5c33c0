-- The residual of Newton's iteration for an inverse.
use Rattle.std.specs.Prelude.{ℕ, zero, suc}
use Rattle.sparse_algebra.specs.Algebra.{CommRing}

-- c squared n times in succession: c to the power 2 ^ n
abbrev pub squared : (R : CommRing) → ℕ → R.Carrier → R.Carrier
squared R zero c = c
squared R (suc n) c = R.mul (squared R n c) (squared R n c)

-- one minus c
abbrev pub one_minus : (R : CommRing) → R.Carrier → R.Carrier
one_minus R c = R.add R.one (R.neg c)
