-- Ring elements that scalars represent.
use Rattle.std.specs.Prelude.{◌≡◌}
use Rattle.sparse_algebra.specs.Algebra.{CommRing}

-- some scalar represents c; f maps a scalar to the ring element that it represents
abbrev pub IsValue : (R : CommRing) {T : Type 0} → (T → R.Carrier) → R.Carrier → Type 0
IsValue R {T} f c = (x : T) × (f x ≡ c)
