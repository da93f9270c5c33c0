-- Inverses in a commutative ring.
use Rattle.std.specs.Prelude.{◌≡◌}
use Rattle.sparse_algebra.specs.Algebra.{CommRing}

-- some scalar y represents the inverse of c; f maps a scalar to the ring element that it represents
abbrev pub HasInverse : (R : CommRing) {T : Type 0} → (T → R.Carrier) → R.Carrier → Type 0
HasInverse R {T} f c = (y : T) × (R.mul c (f y) ≡ R.one)
