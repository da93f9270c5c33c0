-- Finished columns of the factor: their offsets, and their rows one column after another.
use Rattle.std.specs.Prelude.{◌≡◌, ℕ, ◌+◌, ◌<◌, ◌≤◌, List, length, slice_index, Contains}

-- the elements from offset low to high are within the list and strictly increasing
pub record IsRun (xs : List ℕ) (low high : ℕ) : Type 0 where
  pub ordered : low ≤ high
  pub inside : high ≤ length xs
  pub rising : (p q : ℕ) → low ≤ p → p < q → q < high → slice_index xs p < slice_index xs q

-- x is one of the elements from offset low to high
pub record IsInRun (xs : List ℕ) (low high x : ℕ) : Type 0 where
  pub at : ℕ
  pub from : low ≤ at
  pub to : at < high
  pub is : slice_index xs at ≡ x

-- row i is in column k
abbrev pub IsInColumn : List ℕ → List ℕ → ℕ → ℕ → Type 0
IsInColumn offsets rows k i = IsInRun rows (slice_index offsets k) (slice_index offsets (k + 1)) i

-- row i is in the tail of column k: below the diagonal
abbrev pub IsInTail : List ℕ → List ℕ → ℕ → ℕ → Type 0
IsInTail offsets rows k i = IsInColumn offsets rows k i × (k < i)

-- the columns are strictly increasing, and have no row above the diagonal
pub record AreColumns (offsets rows : List ℕ) : Type 0 where
  pub runs : (k : ℕ) → k + 1 < length offsets
      → IsRun rows (slice_index offsets k) (slice_index offsets (k + 1))
  pub low : (k i : ℕ) → k + 1 < length offsets → IsInColumn offsets rows k i → k ≤ i

-- p is the least row of the lane below the diagonal of `column`
pub record IsFirstBelow (lane : List ℕ) (column p : ℕ) : Type 0 where
  pub below : column < p
  pub stored : Contains lane p
  pub least : (q : ℕ) → column < q → Contains lane q → p ≤ q

-- all rows are less than n
abbrev pub AreRowsBelow : ℕ → List ℕ → Type 0
AreRowsBelow n rows = (p : ℕ) → p < length rows → slice_index rows p < n
