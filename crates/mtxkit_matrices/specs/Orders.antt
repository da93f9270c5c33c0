-- Lists of triplets that are ordered column by column.
use Rattle.std.specs.Prelude.{◌≡◌, ℕ, ◌<◌, ◌⊎◌, List, [], ◌∷◌, All, map}

-- the row and the column of each triplet
abbrev pub coordinates_of : {T : Type 0} → List (ℕ × ℕ × T) → List (ℕ × ℕ)
coordinates_of ts = map {B = ℕ × ℕ} (λ t. (t.0, t.1)) ts

-- (i, j) is in an earlier column than (k, l), or in the same column and an earlier row
abbrev pub IsBefore : ℕ × ℕ → ℕ × ℕ → Type 0
IsBefore p q = (p.1 < q.1) ⊎ ((p.1 ≡ q.1) × (p.0 < q.0))

-- the pairs are ordered column by column, and each column from the top, without duplicates
abbrev pub IsByColumns : List (ℕ × ℕ) → Type 0
IsByColumns [] = Unit {0}
IsByColumns (p ∷ ps) = All (IsBefore p) ps × IsByColumns ps
