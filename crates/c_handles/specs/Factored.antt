-- What a handle of factors L D Lᵀ holds, and the errors of calls with such handles.
use Rattle.std.specs.Prelude.{◌≡◌, ◌⊎◌, ℕ, ℤ, pos, List, [], length, Option, None, Some}
use Rattle.std.specs.Int.{w64}
use Rattle.sparse_algebra.specs.Plain.{below, Plain, plain_of_triplets}
use Rattle.sparse_algebra.specs.Wrapping.{fits_zero}
use Rattle.sparse_algebra.specs.WrappingValues.{w64_value}
use Rattle.sparse_algebra.specs.declared.scalar.wrapping.W64.{W64}
use Rattle.c_arrays.specs.Arrays.{ring64}
use Rattle.c_arrays.specs.Refused.{HasWrongLength}
use Rattle.c_arrays.specs.declared.refusal.Refusal.{Refusal}
use Rattle.c_arrays.specs.declared.refusal.Refusal.TheVariants.{Singular}
use Rattle.sparse_compressed.specs.Compressed.{Compressed}
use Rattle.sparse_compressed.specs.PlainOfLanes.{plain_of_cols}
use Rattle.c_handles.specs.Held.{plain_held, IsEmpty}
use Rattle.c_handles.specs.Solved.{IsNoSquare, IsSquare}
use Rattle.c_handles.specs.declared.held_factors.HeldFactors.{HeldFactors}
use Rattle.c_handles.specs.declared.held_factors.HeldFactors.TheVariants.{Natural, Ordered}
use Rattle.sparse_factor.specs.Factorisations.{plain_symmetric, IsFactorisation}
use Rattle.sparse_factor.specs.Factors.{diagonal, plain_of_factors, Factors}
use Rattle.sparse_factor.specs.Fill.{InFill, PlainBase, StoresByColumns}
use Rattle.sparse_factor.specs.OrderedFactors.{plain_of_ordered}

abbrev pub zero64 : W64
zero64 = record { number = pos 0; in_range = fits_zero w64 }

-- the factors L and D of the matrix A, or of P A Pᵀ
abbrev pub factors_in : HeldFactors → Factors W64
factors_in (Natural s) = s
factors_in (Ordered s) = s.factors

-- the permutation P, which changes nothing if the factors are those of A
abbrev pub order_in : HeldFactors → List ℕ
order_in (Natural s) = below s.l.pattern.minor_dim
order_in (Ordered s) = s.order

-- the matrix that the factors make up: L D Lᵀ, or Pᵀ L D Lᵀ P
abbrev pub product_in : HeldFactors → Plain ring64
product_in (Natural s) = plain_of_factors ring64 w64_value zero64 s
product_in (Ordered s) = plain_of_ordered ring64 w64_value zero64 s

-- the number of rows of this matrix
abbrev pub size_in : HeldFactors → ℕ
size_in (Natural s) = s.l.pattern.minor_dim
size_in (Ordered s) = length s.order

-- the matrix that the factors of a handle make up; of an empty handle, the one with no rows and no columns
abbrev pub product_held : Option HeldFactors → Plain ring64
product_held None = plain_of_triplets ring64 w64_value 0 0 []
product_held (Some s) = product_in s

-- the number of rows of this matrix
abbrev pub size_held : Option HeldFactors → ℕ
size_held None = 0
size_held (Some s) = size_in s

-- the permutation of the factors of a handle; of an empty handle, the one of no numbers
abbrev pub order_held : Option HeldFactors → List ℕ
order_held None = []
order_held (Some s) = order_in s

-- the factor L that a handle holds; of an empty handle, the matrix with no rows and no columns
abbrev pub l_held : Option HeldFactors → Plain ring64
l_held None = plain_of_triplets ring64 w64_value 0 0 []
l_held (Some s) = plain_of_cols ring64 w64_value (factors_in s).l

-- the diagonal of the factor D that a handle holds, followed by zeros
abbrev pub d_held : Option HeldFactors → ℕ → ring64.Carrier
d_held None = λ _. ring64.zero
d_held (Some s) = diagonal ring64 w64_value zero64 (factors_in s).d

-- the matrix is square, s has factors L and D of the symmetric matrix whose entries on and above the diagonal are those
-- of a, and the entries of L are exactly the fill
pub record AreFactors (a : Plain ring64) (s : Factors W64) : Type 0 where
  pub square : IsSquare a
  pub entries : StoresByColumns (InFill (PlainBase a)) s.l.pattern
  pub factors : IsFactorisation ring64 w64_value (plain_symmetric ring64 a)
      (plain_of_cols ring64 w64_value s.l) (diagonal ring64 w64_value zero64 s.d)

-- the handle holds such factors
abbrev pub HoldsFactors : Option HeldFactors → Plain ring64 → Type 0
HoldsFactors handle a = (s : Factors W64) × (handle ≡ Some (Natural s)) × AreFactors a s

-- the error of a factorisation: the handle holds no square matrix, or else the symmetric matrix has no factors L and D
abbrev pub IsUnfactored : Option (Compressed W64) → Refusal → Type 0
IsUnfactored a refusal = IsNoSquare a refusal ⊎ (IsSquare (plain_held a) × (refusal ≡ Singular)
    × ((l : Plain ring64) (d : ℕ → ring64.Carrier)
    → IsFactorisation ring64 w64_value (plain_symmetric ring64 (plain_held a)) l d → ⊥))

-- the error of a solve with factors: the handle is empty, or the right-hand side does not have m values for each row
abbrev pub HasNoSystem : Option HeldFactors → ℕ → List ℤ → Refusal → Type 0
HasNoSystem handle m b refusal =
    IsEmpty handle refusal ⊎ HasWrongLength (size_held handle) m b refusal
