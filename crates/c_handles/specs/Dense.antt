-- Products of the matrix that a handle holds and a dense matrix that is given by its values.
use Rattle.std.specs.Prelude.{◌≡◌, ◌⊎◌, ◌<◌, ◌*◌, ℕ, ℤ, List, Option, length}
use Rattle.sparse_algebra.specs.Plain.{Plain, plain_product}
use Rattle.sparse_algebra.specs.declared.scalar.wrapping.W64.{W64}
use Rattle.sparse_coo_dense.specs.DensePlain.{plain_full}
use Rattle.c_arrays.specs.Arrays.{plain_by_values, ring64}
use Rattle.c_arrays.specs.Refused.{HasWrongLength}
use Rattle.c_arrays.specs.declared.refusal.Refusal.{Refusal}
use Rattle.c_arrays.specs.declared.refusal.Refusal.TheVariants.{TooSmall}
use Rattle.sparse_compressed.specs.Compressed.{Compressed}
use Rattle.c_handles.specs.Held.{plain_held, IsEmpty}

-- the product of a and the dense matrix with m columns and these values, as a dense matrix: all pairs within its shape
-- are places
abbrev pub dense_product : Plain ring64 → ℕ → List ℤ → Plain ring64
dense_product a m values = plain_full ring64 (plain_product ring64 a (plain_by_values ring64 a.cols m values))

-- the error of a product with a dense matrix with m columns: the handle is empty, the dense matrix does not have m
-- values for each column of the matrix, or else the array is too short for the product
abbrev pub IsDenseProductError : Option (Compressed W64) → ℕ → List ℤ → List ℤ → Refusal → Type 0
IsDenseProductError a m values room refusal = IsEmpty a refusal
    ⊎ (HasWrongLength (plain_held a).cols m values refusal
    ⊎ ((length values ≡ (plain_held a).cols * m) × (refusal ≡ TooSmall)
    × (length room < (plain_held a).rows * m)))
