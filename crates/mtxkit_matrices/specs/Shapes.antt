-- The symmetry and the bandwidth of a pattern.
use Rattle.std.specs.Prelude.{◌≡◌, ℕ, ◌≤◌, ◌⊎◌}
use Rattle.std.specs.Int.{abs_diff}
use Rattle.sparse_pattern.specs.Raw.{Raw, IsEntry}

-- the pattern is square and has the entry (j, i) for each entry (i, j)
pub record IsSymmetricPattern (p : Raw) : Type 0 where
  pub square : p.major_dim ≡ p.minor_dim
  pub entries : (i j : ℕ) → IsEntry p i j → IsEntry p j i

-- the width is the largest |i - j| over the entries (i, j), or 0 if there are none
pub record IsBandwidth (p : Raw) (width : ℕ) : Type 0 where
  pub bound : (i j : ℕ) → IsEntry p i j → abs_diff i j ≤ width
  pub reached : (width ≡ 0)
      ⊎ ((i : ℕ) × (j : ℕ) × IsEntry p i j × (abs_diff i j ≡ width))
