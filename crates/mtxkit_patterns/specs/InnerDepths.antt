-- The depths of columns in the elimination tree, from the last column on.
use Rattle.std.specs.Prelude.{◌≡◌, ◌⊎◌, ℕ, ◌+◌, ◌^◌, ◌<◌, ◌≤◌, List, [], ◌∷◌, length, slice_index}
use Rattle.sparse_pattern.specs.Raw.{Raw}
use Rattle.mtxkit_patterns.specs.Columns.{IsDepth}

-- one more than the depth of the parent, or 1 if there is none
abbrev pub depth_above : List ℕ → List ℕ → ℕ
depth_above [] depths = 1
depth_above (parent ∷ rows) depths = slice_index depths parent + 1

-- the parent, if there is one, has a depth, and a greater one fits in 64 bits
abbrev pub HasDepth : List ℕ → List ℕ → Type 0
HasDepth [] depths = Unit {0}
HasDepth (parent ∷ rows) depths =
    (parent < length depths) × (slice_index depths parent + 1 < 2 ^ 64)

-- the last `done` columns have these depths, and `height` is the greatest of them
pub record AreDepths (l : Raw) (done : ℕ) (depths : List ℕ) (height : ℕ) : Type 0 where
  pub long : length depths ≡ l.major_dim
  pub depth : (i : ℕ) → l.major_dim ≤ i + done → i < l.major_dim
      → IsDepth l i (slice_index depths i)
  pub bound : (i : ℕ) → l.major_dim ≤ i + done → i < l.major_dim → slice_index depths i ≤ height
  pub small : (i : ℕ) → l.major_dim ≤ i + done → i < l.major_dim → slice_index depths i ≤ done
  pub reached : ((height ≡ 0) × (done ≡ 0))
      ⊎ ((j : ℕ) × ((j < l.major_dim) × IsDepth l j height))
