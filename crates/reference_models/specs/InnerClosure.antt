-- The pairs that a set lacks: those of a triangle of a pattern, and those that fill implies.
use Rattle.std.specs.Prelude.{◌≡◌, ℕ, ◌<◌, ◌≤◌, ◌⊎◌, List, max, min}
use Rattle.std.specs.List.{Contains}
use Rattle.sparse_pattern.specs.Raw.{Raw}
use Rattle.sparse_factor.specs.Fill.{TriangleBase}
use Rattle.sparse_factor.specs.declared.factorization.Triangle.{Triangle}
use Rattle.sparse_factor.specs.declared.factorization.Triangle.TheVariants.{Upper, Lower, Both}
use Rattle.reference_models.specs.Pairs.{pair}

-- an entry in this row and column belongs to the triangle
abbrev pub IsOfTriangle : Triangle → ℕ → ℕ → Type 0
IsOfTriangle Upper row column = row ≤ column
IsOfTriangle Lower row column = column ≤ row
IsOfTriangle Both row column = Unit {0}

-- the pair of an entry in the base: its row and its column, or its mirror image above the diagonal
abbrev pub base_pair : ℕ → ℕ → ℕ × ℕ
base_pair row column = pair (max row column) (min row column)

-- the pair of each entry of the lane
abbrev pub HasPlacesOf : Triangle → List ℕ → ℕ → List (ℕ × ℕ) → Type 0
HasPlacesOf triangle lane column set = (row : ℕ) → Contains lane row
    → IsOfTriangle triangle row column → Contains set (base_pair row column)

abbrev pub IsLackingPlace : Triangle → List ℕ → ℕ → List (ℕ × ℕ) → ℕ × ℕ → Type 0
IsLackingPlace triangle lane column set x = ((row : ℕ) × Contains lane row
    × IsOfTriangle triangle row column × (x ≡ base_pair row column)) × (Contains set x → ⊥)

-- the pairs that (i, k) and another pair of column k imply
abbrev pub HasFillOf : ℕ → ℕ → List (ℕ × ℕ) → Type 0
HasFillOf i k set = (j : ℕ) → Contains set (pair j k) → k < j → j ≤ i → Contains set (pair i j)

abbrev pub IsLackingFill : ℕ → ℕ → List (ℕ × ℕ) → ℕ × ℕ → Type 0
IsLackingFill i k set x = (x.0 ≡ i) × Contains set (pair x.1 k) × (k < x.1) × (x.1 ≤ i)
    × (Contains set x → ⊥)

pub record IsWhole (triangle : Triangle) (p : Raw) (set : List (ℕ × ℕ)) : Type 0 where
  pub base : (i j : ℕ) → TriangleBase triangle p i j → Contains set (pair i j)
  pub closed : (i j k : ℕ) → Contains set (pair i k) → Contains set (pair j k) → k < j → j ≤ i
      → Contains set (pair i j)

-- x is not in the set, and is in the base or implied by two pairs of the set
pub record IsLacking (triangle : Triangle) (p : Raw) (set : List (ℕ × ℕ)) (x : ℕ × ℕ) : Type
    0 where
  pub new : Contains set x → ⊥
  pub from : TriangleBase triangle p x.0 x.1
      ⊎ ((k : ℕ) × Contains set (pair x.0 k) × Contains set (pair x.1 k) × (k < x.1) × (x.1 ≤ x.0))
