-- The marks of rows: a row has the mark of the last column that it was merged into.
use Rattle.std.specs.Prelude.{◌≡◌, ◌≢◌, ℕ, ◌≤◌, ◌↔◌, List, slice_index}
use Rattle.std.specs.List.{Contains, AllPairs}

-- no element is greater than `most`
abbrev pub AreAtMost : ℕ → List ℕ → Type 0
AreAtMost most marks = (i : ℕ) → slice_index marks i ≤ most

-- the rows are exactly those with the mark, each once, and no mark is greater
pub record AreMarked (mark : ℕ) (marks rows : List ℕ) : Type 0 where
  pub most : AreAtMost mark marks
  pub same : (i : ℕ) → slice_index marks i ≡ mark ↔ Contains rows i
  pub once : AllPairs (λ x y. x ≢ y) rows
