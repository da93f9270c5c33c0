-- Vectors of every `step`-th element of a list, and lists of which one element is written.
use Rattle.std.specs.Prelude.{◌≡◌, ℕ, ◌*◌, List, slice_index_or, slice_set}
use Rattle.sparse_algebra.specs.Algebra.{CommRing}

-- element k of the vector that has every step-th scalar of a list
abbrev pub strided : (R : CommRing) {T : Type 0} → (T → R.Carrier) → T → List T → ℕ → ℕ → R.Carrier
strided R f z xs step k = f (slice_index_or xs (k * step) z)

-- the n-th element is written, with a scalar that represents v
pub record IsWrittenAt (R : CommRing) {T : Type 0} (f : T → R.Carrier) (z : T) (n : ℕ)
    (v : R.Carrier) (old new : List T) : Type 0 where
  pub written : new ≡ slice_set old n (slice_index_or new n z)
  pub value : f (slice_index_or new n z) ≡ v
