-- Columns of a dense matrix in a list, of which one or some are changed at a time.
use Rattle.std.specs.Prelude.{◌≡◌, ℕ, ◌*◌, ◌<◌, List, length, take, drop}

-- column j of a list of columns with n entries
abbrev pub column_at : {T : Type 0} → ℕ → List T → ℕ → List T
column_at n xs j = take n (drop (j * n) xs)

module _ {T : Type 0} (n m : ℕ) (P : ℕ → List T → List T → Type 0) (old new : List T) where
  -- each of m columns with n entries is changed as P says; P takes the number of the column
  pub record AreChanged : Type 0 where
    pub count : length new ≡ length old
    pub each : (j : ℕ) → j < m → P j (column_at n old j) (column_at n new j)

  -- the first m columns with n entries are changed as P says, and the others are unchanged
  pub record AreChangedBelow : Type 0 where
    pub count : length new ≡ length old
    pub before : (j : ℕ) → j < m → P j (column_at n old j) (column_at n new j)
    pub behind : drop (m * n) new ≡ drop (m * n) old
