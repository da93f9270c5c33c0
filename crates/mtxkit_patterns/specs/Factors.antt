-- The factor of a square pattern.
use Rattle.std.specs.Prelude.{◌≡◌, ◌⊎◌, ◌↔◌, ℕ}
use Rattle.sparse_pattern.specs.Raw.{Raw, IsEntry, IsValid}
use Rattle.sparse_factor.specs.Fill.{InFill, StoresByColumns, TriangleBase}
use Rattle.sparse_factor.specs.declared.factorization.Triangle.TheVariants.{Both}

-- u is the union of a square pattern and its transpose
pub record IsSymmetrised (a u : Raw) : Type 0 where
  pub valid : IsValid u
  pub major_dim : u.major_dim ≡ a.major_dim
  pub minor_dim : u.minor_dim ≡ a.minor_dim
  pub entries : (i j : ℕ) → IsEntry u i j ↔ (IsEntry a i j ⊎ IsEntry a j i)

-- l has the shape of the square pattern and, by columns, the fill of both its triangles
pub record IsFactor (a l : Raw) : Type 0 where
  pub valid : IsValid l
  pub columns : l.major_dim ≡ a.major_dim
  pub rows : l.minor_dim ≡ a.minor_dim
  pub fill : StoresByColumns (InFill (TriangleBase Both a)) l
