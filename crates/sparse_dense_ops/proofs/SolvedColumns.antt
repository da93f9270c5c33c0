-- A dense matrix of which one column is written, and one of which each column is solved.
use Rattle.std.proofs.Common.{◌≡◌, ◌≢◌, ℕ, ◌+◌, ◌*◌, ◌<◌, ◌≤◌, inl, inr, List, length, get_or}
use Rattle.std.proofs.Common.{ap, sym, subst, ◌∙◌, refl, arith}
use Rattle.std.proofs.Math.Nat.{add-mul, mul-le-mul_right}
use Rattle.std.proofs.lemmas.Grind.{common_steps}
use Rattle.std.proofs.lemmas.Nat.{mul-add-lt}
use Rattle.sparse_algebra.proofs.Cases.{lt_or_gt}
use Rattle.sparse_algebra.specs.Algebra.{CommRing}
use Rattle.sparse_algebra.proofs.SumLemmas.{sum_below-same}
use Rattle.sparse_coo_dense.specs.Dense.{Dense, value_at, column_of, with_column, with_values}
use Rattle.sparse_dense_ops.specs.InnerBlocks.{AreChanged, column_at}
use Rattle.sparse_dense_ops.specs.InnerColumns.{SolvesAt, SolvesColumn, SolvesColumns}
use Rattle.sparse_dense_ops.specs.SparseVectors.{elements}
use Rattle.sparse_dense_ops.proofs.ColumnBlocks.{column_at-entry, length-column_at}
use Rattle.sparse_dense_ops.proofs.Refills.{refill_from-inside, refill_from-before}
use Rattle.sparse_dense_ops.proofs.Refills.{refill_from-after, refill_whole}

module _ {T : Type 0} (x : Dense T) (j : ℕ) (ws : List T) (full : length (column_of x j) ≡ x.nrows)
    (count : length ws ≡ x.nrows) where
  room : (i : ℕ) → i < x.nrows → j * x.nrows + length ws ≤ length x.values
  room i lt = grind (arith, common_steps, full, count, lt)

  pub with_column-here : (i : ℕ) (z : T) → i < x.nrows
      → value_at (with_column x j ws) i j z ≡ get_or ws i z
  with_column-here i z lt = refill_from-inside x.values ws (j * x.nrows) (room i lt) i z
      (omega (arith, count, lt))

  pub with_column-other : (i l : ℕ) (z : T) → i < x.nrows → l ≢ j
      → value_at (with_column x j ws) i l z ≡ value_at x i l z
  with_column-other i l z lt other = elim (lt_or_gt l j other) [
    | inl before ↦ refill_from-before x.values ws (j * x.nrows) (room i lt) (l * x.nrows + i) z
        (omega (arith, mul-add-lt l x.nrows i j before lt))
    | inr after ↦
        let past : (j + 1) * x.nrows ≤ l * x.nrows = mul-le-mul_right x.nrows (omega arith) in
        refill_from-after x.values ws (j * x.nrows) (room i lt) (l * x.nrows + i) z
        (omega (arith, past, add-mul j 1 x.nrows, count))
  ]

module _ {R : CommRing} {T : Type 0} {f : T → R.Carrier} {z : T} {t : ℕ → ℕ → R.Carrier} where
  -- a matrix without rows is its own solution
  pub solved_empty : {b : Dense T} → b.nrows ≡ 0 → SolvesColumns R f z t b b
  solved_empty none = record {
    rows = refl;
    cols = refl;
    solved = λ j _ i lt. absurd (omega (arith, none, lt));
  }

  -- if each column of the values is solved, the dense matrix is
  pub solved_columns : {b : Dense T} {ws : List T} → length b.values ≡ b.ncols * b.nrows
      → AreChanged b.nrows b.ncols (SolvesAt R f z t) b.values ws
      → SolvesColumns R f z t (with_values b ws) b
  solved_columns {b} {ws} full h = record { rows = refl; cols = refl; solved = solved }
    where
      n : ℕ
      n = b.nrows

      solved : (j : ℕ) → j < b.ncols
          → SolvesColumn R b.nrows t (λ i. f (value_at (with_values b ws) i j z))
          (λ i. f (value_at b i j z))
      solved j col i row =
          sum_below-same R n _ _ (λ k lt. ap (λ v. R.mul (t i k) (f v))
          (ap (λ vs. get_or vs (j * n + k) z) (refill_whole b.values ws h.count)
          ∙ sym (column_at-entry n ws k j z lt)))
          ∙ subst (λ n. SolvesColumn R n t (elements R f z (column_at b.nrows ws j))
          (elements R f z (column_at b.nrows b.values j)))
          (length-column_at n b.values b.ncols j full col) (h.each j col) i row
          ∙ ap f (column_at-entry n b.values i j z row)
