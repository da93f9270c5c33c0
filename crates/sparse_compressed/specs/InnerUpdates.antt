-- The values of a pattern after C = beta C + alpha X.
use Rattle.std.specs.Prelude.{◌≡◌, ℕ, List, slice_index_or}
use Rattle.sparse_algebra.specs.Algebra.{CommRing}
use Rattle.sparse_pattern.specs.Raw.{Raw}
use Rattle.sparse_compressed.specs.Compressed.{IsOffset}

-- at each entry of the pattern, the new value represents beta * c + alpha * x, where c is what the
-- old value represented
abbrev pub AreUpdated : (R : CommRing) {T : Type 0} → (T → R.Carrier) → T → Raw → R.Carrier
    → R.Carrier → (ℕ → ℕ → R.Carrier) → List T → List T → Type 0
AreUpdated R f z d beta alpha x old new = (i j p : ℕ) → IsOffset d i j p
    → f (slice_index_or new p z) ≡ R.add (R.mul beta (f (slice_index_or old p z)))
    (R.mul alpha (x i j))
