-- Calls over handles of matrices over residues.
use Rattle.std.specs.Prelude.{◌≡◌, ◌⊎◌, ◌*◌, ℕ, ℤ, List, Option, length}
use Rattle.sparse_algebra.specs.Algebra.{CommRing}
use Rattle.sparse_algebra.specs.Moduli.{mod_ring}
use Rattle.sparse_algebra.specs.Plain.{Plain, plain_product}
use Rattle.sparse_coo_dense.specs.DensePlain.{plain_full}
use Rattle.sparse_compressed.specs.Compressed.{IsSound}
use Rattle.sparse_c.specs.Combinations.{HaveShapesFor}
use Rattle.sparse_c.specs.Dense.{IsDenseTooLong, WritesValues}
use Rattle.sparse_c.specs.Moduli.{IsUnlisted}
use Rattle.sparse_c.specs.declared.arguments.Combination.{Combination}
use Rattle.c_arrays.specs.Arrays.{plain_by_values, HoldsDense, OutputArrays}
use Rattle.c_arrays.specs.Refused.{HasWrongLength}
use Rattle.c_arrays.specs.Written.{WritesRows}
use Rattle.c_arrays.specs.declared.refusal.Refusal.{Refusal}
use Rattle.c_arrays.specs.declared.refusal.Refusal.TheVariants.{ShapeMismatch}
use Rattle.c_handles.specs.Rings.{arrays_held, modulus_held, residues_held, HoldsModulo, IsRingError}
use Rattle.c_handles.specs.Held.{Answers, IsEmpty}
use Rattle.c_handles.specs.declared.ring_matrix.RingMatrix.{RingMatrix}

-- the error of a call over one handle: it is empty, or its modulus is not listed. No call puts such a modulus behind a
-- handle
abbrev pub IsNoOperand : Option RingMatrix → Refusal → Type 0
IsNoOperand handle refusal = IsEmpty handle refusal ⊎ IsUnlisted (modulus_held handle) refusal

-- the error of a combination of two handles: one is empty, or their moduli differ, or else the shapes of their matrices
-- do not fit, or the modulus is not listed
abbrev pub IsNoPair : Combination → Option RingMatrix → Option RingMatrix → Refusal → Type 0
IsNoPair how a b refusal = IsRingError a b refusal ⊎ ((modulus_held b ≡ modulus_held a)
    × (((refusal ≡ ShapeMismatch) × (HaveShapesFor how (arrays_held a) (arrays_held b) → ⊥))
    ⊎ IsUnlisted (modulus_held a) refusal))

-- the contract of a call that puts the combination f of the matrices of two handles behind a third one: with the handles,
-- the third before and after the call, and its status
abbrev pub CombinesHeld : Combination → ((R : CommRing) → Plain R → Plain R → Plain R)
    → Option RingMatrix → Option RingMatrix → Option RingMatrix → Option RingMatrix → ℤ → Type 0
CombinesHeld how f a b before after status = let m = modulus_held a in
    Answers status (IsNoPair how a b) (after ≡ before) ((modulus_held b ≡ m)
    × HaveShapesFor how (arrays_held a) (arrays_held b)
    × HoldsModulo m after (f (mod_ring m) (residues_held m a) (residues_held m b)))

-- the contract of a call that writes the matrix of a handle by rows, with the arrays before and after the call, and its
-- status
abbrev pub WritesHeldRows : Option RingMatrix → OutputArrays → OutputArrays → ℤ → Type 0
WritesHeldRows handle = WritesRows (IsSound (arrays_held handle)) (IsNoOperand handle)
    (residues_held (modulus_held handle) handle)

-- the product of the matrix of a handle and the dense matrix with n columns and these values, as a dense matrix
abbrev pub dense_product_held : (m : ℕ) → Option RingMatrix → ℕ → List ℤ → Plain (mod_ring m)
dense_product_held m handle n b = plain_full (mod_ring m) (plain_product (mod_ring m)
    (residues_held m handle) (plain_by_values (mod_ring m) (arrays_held handle).pattern.minor_dim n b))

-- the contract of a call that writes this product, with the array before and after the call, and its status
abbrev pub WritesHeldProduct : Option RingMatrix → ℕ → List ℤ → List ℤ → List ℤ → ℤ → Type 0
WritesHeldProduct handle n b = let d = (arrays_held handle).pattern in
    WritesValues (length b ≡ d.minor_dim * n)
    (λ refusal. IsNoOperand handle refusal ⊎ HasWrongLength d.minor_dim n b refusal)
    (HoldsDense (dense_product_held (modulus_held handle) handle n b))
    (IsDenseTooLong d.major_dim n) (d.major_dim * n)
