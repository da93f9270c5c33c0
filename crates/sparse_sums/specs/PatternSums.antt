-- Unions of patterns.
use Rattle.std.specs.Prelude.{ℕ, ◌↔◌, ◌⊎◌}
use Rattle.sparse_pattern.specs.Raw.{Raw, IsEntry}

-- d has an entry at (i, j) if and only if a or b has one
abbrev pub IsUnionOf : Raw → Raw → Raw → Type 0
IsUnionOf d a b = (i j : ℕ) → IsEntry d i j ↔ (IsEntry a i j ⊎ IsEntry b i j)
