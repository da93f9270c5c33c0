-- The entries of finished columns that are merged: each at most once, into the column's parent.
use Rattle.std.proofs.Common.{ℕ, ◌+◌, ◌<◌, ◌≤◌, inl, inr, List, length, slice_index, arith}
use Rattle.sparse_factor.specs.Fill.{ListsFill}
use Rattle.sparse_factor.specs.Fill.{Filled}
use Rattle.sparse_factor.specs.InnerColumns.{IsInColumn}
use Rattle.sparse_factor.specs.InnerChildren.{IsOnList}
use Rattle.sparse_factor.specs.InnerCountedPairs.{CountsPairs}
use Rattle.sparse_factor.proofs.FillLaws.{IsParent, in_fill}
use Rattle.sparse_factor.proofs.Merged.{AreMerged, column_has}
use Rattle.sparse_factor.proofs.AddedRows.{counted_superset, counted_both, counted_at_most}

-- (i, k) is in the fill, and the parent of k, if there is one, is before j
abbrev pub IsMergedBefore : (ℕ → ℕ → Type 0) → ℕ → ℕ → ℕ → Type 0
IsMergedBefore base j i k = Filled base i k × ((p : ℕ) → IsParent base k p → p < j)

pub counted_next : {base : ℕ → ℕ → Type 0} {n : ℕ} {offsets rows firsts nexts : List ℕ} {j : ℕ}
    → AreMerged base n offsets rows firsts nexts j → {a b c : ℕ}
    → CountsPairs (IsMergedBefore base j) a b
    → CountsPairs (λ i k. IsOnList nexts (slice_index firsts j) k × IsInColumn offsets rows k i) b c
    → CountsPairs (IsMergedBefore base (j + 1)) a c
counted_next {j = j} are before now =
    counted_superset (λ i k h. elim h [
      | inl old ↦ (old.0, λ p is. omega (arith, old.1 p is))
      | inr new ↦
          let (early, parent) = (are.listed k j).0 new.0 in (
            (column_has are k i early).0 new.1,
            λ p is. omega (arith, is.least j parent.above parent.filled),
          )
    ]) (counted_both before now (λ i k old new.
    let (early, parent) = (are.listed k j).0 new.0 in
    omega (arith, old.1 j parent)))

pub counted_within_fill : {base : ℕ → ℕ → Type 0} (j : ℕ) {a b : ℕ} → CountsPairs (IsMergedBefore base j) a b
    → (fill : List (ℕ × ℕ)) → ListsFill base fill → b ≤ a + length fill
counted_within_fill j added fill all = counted_at_most added fill (λ i k h. all i k (in_fill h.0))
