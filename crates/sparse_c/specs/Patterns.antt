-- The number of entries of a product of two CSR patterns.
use Rattle.std.specs.Prelude.{◌≡◌, ◌⊎◌, ℕ, ℤ}
use Rattle.sparse_products.specs.Products.{IsProductOf}
use Rattle.sparse_pattern.specs.Raw.{Raw, IsValid, nnz_of}
use Rattle.c_arrays.specs.Refused.{IsFaultOfPattern, IsOutOfMemoryOr}
use Rattle.c_arrays.specs.Statuses.{number_of}
use Rattle.c_arrays.specs.declared.refusal.Refusal.{Refusal}

-- n is the number of entries of the pattern of the product of a and b
pub record CountsProduct (a b : Raw) (n : ℕ) : Type 0 where
  pub product : Raw
  pub valid : IsValid product
  pub rows : product.major_dim ≡ a.major_dim
  pub cols : product.minor_dim ≡ b.minor_dim
  pub entries : IsProductOf product a b
  pub count : n ≡ nnz_of product

-- the status of a call that reads two patterns and fails: that of OutOfMemory, or of the first fault of a, or of the
-- first fault of b if a has none
abbrev pub IsPatternPairRefused : Raw → Raw → ℤ → Type 0
IsPatternPairRefused a b status = (refusal : Refusal) × (status ≡ number_of refusal)
    × IsOutOfMemoryOr (λ r. IsFaultOfPattern a r ⊎ (IsValid a × IsFaultOfPattern b r)) refusal
