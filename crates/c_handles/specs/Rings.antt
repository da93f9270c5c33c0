-- What a handle of a matrix over residues holds, and the errors of calls with such handles.
use Rattle.std.specs.Prelude.{◌≡◌, ◌≢◌, ◌⊎◌, ℕ, ℤ, [], ◌∷◌, Option, None, Some}
use Rattle.sparse_algebra.specs.Moduli.{mod_ring}
use Rattle.sparse_algebra.specs.Plain.{Plain}
use Rattle.sparse_compressed.specs.Compressed.{arrays_of, Compressed}
use Rattle.c_arrays.specs.Arrays.{plain_by_rows}
use Rattle.c_arrays.specs.declared.refusal.Refusal.{Refusal}
use Rattle.c_arrays.specs.declared.refusal.Refusal.TheVariants.{RingMismatch}
use Rattle.c_handles.specs.Held.{IsEitherEmpty}
use Rattle.c_handles.specs.declared.ring_matrix.RingMatrix.{RingMatrix}

-- the modulus of the matrix that a handle holds; of an empty handle, 0
abbrev pub modulus_held : Option RingMatrix → ℕ
modulus_held None = 0
modulus_held (Some s) = s.modulus

-- the arrays of the matrix that a handle holds, by rows; of an empty handle, those of the matrix with no rows and no
-- columns
abbrev pub arrays_held : Option RingMatrix → Compressed ℤ
arrays_held None = arrays_of 0 0 (0 ∷ []) [] []
arrays_held (Some s) = s.matrix

-- the plain matrix of these arrays over the residues modulo m
abbrev pub residues_held : (m : ℕ) → Option RingMatrix → Plain (mod_ring m)
residues_held m handle = plain_by_rows (mod_ring m) (arrays_held handle)

-- the handle holds a matrix with the modulus m, whose plain matrix is a
abbrev pub HoldsModulo : (m : ℕ) → Option RingMatrix → Plain (mod_ring m) → Type 0
HoldsModulo m handle a = (s : RingMatrix) × (handle ≡ Some s) × (s.modulus ≡ m) × (plain_by_rows (mod_ring m) s.matrix ≡ a)

-- the error of two handles: one is empty, or the moduli of their matrices differ
abbrev pub IsRingError : Option RingMatrix → Option RingMatrix → Refusal → Type 0
IsRingError a b refusal = IsEitherEmpty a b refusal
    ⊎ ((refusal ≡ RingMismatch) × (modulus_held a ≢ modulus_held b))
