-- Integers that represent residues.
use Rattle.std.specs.Prelude.{◌≡◌, ◌<◌, ℕ, ℤ, pos, List, slice_index_or}
use Rattle.sparse_algebra.specs.Moduli.{modulus}

-- the first n integers satisfy P
abbrev pub FirstAre : (ℤ → Type 0) → ℕ → List ℤ → Type 0
FirstAre P n numbers = (k : ℕ) → k < n → P (slice_index_or numbers k (pos 0))

-- the number is from 0 to m - 1
abbrev pub IsReduced : ℕ → ℤ → Type 0
IsReduced m z = (n : ℕ) × (z ≡ pos n) × (n < modulus m)
