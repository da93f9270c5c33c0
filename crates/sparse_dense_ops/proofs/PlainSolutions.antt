-- Dense matrices whose columns solve a system, as plain matrices.
use Rattle.std.proofs.Common.{◌≡◌, ℕ, ◌<◌, ◌≤◌, inl, inr, ◌&&◌}
use Rattle.std.proofs.Common.{ap, sym, ◌∙◌, arith}
use Rattle.std.specs.Prelude.{nat_lt, nat_le}
use Rattle.sparse_algebra.proofs.Cases.{lt_or_ge}
use Rattle.sparse_algebra.specs.Algebra.{CommRing}
use Rattle.sparse_algebra.specs.Sums.{sum_below}
use Rattle.sparse_algebra.specs.Plain.{Plain, IsProper, IsWithin, plain_product, plain_transpose}
use Rattle.sparse_algebra.proofs.RingLemmas.{mul_zero}
use Rattle.sparse_algebra.proofs.SumLemmas.{sum_below-same, sum_below-zero}
use Rattle.sparse_algebra.proofs.PlainLemmas.{same_plain}
use Rattle.sparse_algebra.proofs.PlainLaws.{proper_kept, proper_transpose, within_kept}
use Rattle.sparse_algebra.proofs.PlainLaws.{within_transpose}
use Rattle.sparse_compressed.specs.Compressed.{Compressed, IsSound}
use Rattle.sparse_compressed.specs.PlainOfLanes.{plain_of_rows, plain_of_cols}
use Rattle.sparse_algebra.specs.declared.operand.Op.{Op}
use Rattle.sparse_algebra.specs.declared.operand.Op.TheVariants.{NoOp, Transpose}
use Rattle.sparse_algebra.specs.Operands.{inner_of, plain_op}
use Rattle.sparse_coo_dense.specs.Dense.{Dense, value_at}
use Rattle.sparse_coo_dense.specs.DensePlain.{plain_of_dense}
use Rattle.sparse_dense_ops.specs.Solutions.{IsSolution, plain_lower}
use Rattle.sparse_dense_ops.specs.InnerColumns.{SolvesColumns, op_lower}
pub use Rattle.sparse_dense_ops.proofs.DenseValues.{dense_inside, dense_past_cols}
use Rattle.sparse_dense_ops.proofs.DenseValues.{dense_past_rows, miss, rows_within}
use Rattle.sparse_dense_ops.proofs.RingSteps.{mul_off}

module _ (R : CommRing) {T : Type 0} (f : T → R.Carrier) (z : T) (zero : f z ≡ R.zero) where
  module _ (t : Plain R) (x b : Dense T) (rows : t.rows ≡ b.nrows) (cols : t.cols ≡ b.nrows)
      (proper : IsProper t) (within : 0 < b.ncols → IsWithin t)
      (solves : SolvesColumns R f z t.value x b) where
    -- rows past the number of rows are zero
    row_off : (i k : ℕ) → b.nrows ≤ i → 0 < b.ncols → t.value i k ≡ R.zero
    row_off i k le some =
        proper i k (miss (t.has i k) (λ hit. omega (arith, (within some i k hit).0, rows, le)))

    nothing : (g : ℕ → R.Carrier) → ((k : ℕ) → g k ≡ R.zero) → sum_below R t.cols g ≡ R.zero
    nothing g h = sum_below-same R t.cols g (λ _. R.zero) (λ k _. h k) ∙ sum_below-zero R t.cols

    value_is : (i j : ℕ)
        → (plain_product R t (plain_of_dense R f x)).value i j ≡ (plain_of_dense R f b).value i j
    value_is i j = elim (lt_or_ge j b.ncols) [
      | inr past ↦
          nothing _ (λ k. ap (R.mul (t.value i k))
          (dense_past_cols R f z zero x k j (omega (arith, solves.cols, past)))
          ∙ mul_zero R (t.value i k))
          ∙ sym (dense_past_cols R f z zero b i j past)
      | inl col ↦ elim (lt_or_ge i b.nrows) [
        | inl row ↦
            sum_below-same R t.cols _ _ (λ k lt. ap (R.mul (t.value i k))
            (dense_inside R f z zero x k j (omega (arith, lt, cols, solves.rows))
            (omega (arith, col, solves.cols))))
            ∙ ap (λ n. sum_below R n (λ k. R.mul (t.value i k) (f (value_at x k j z)))) cols
            ∙ solves.solved j col i row ∙ sym (dense_inside R f z zero b i j row col)
        | inr past ↦ nothing _ (λ k. mul_off R (t.value i k) _
            (row_off i k past (omega (arith, col)))) ∙ sym (dense_past_rows R f z zero b i j past)
      ]
    ]

    pub plain_solution : IsSolution R t (plain_of_dense R f x) (plain_of_dense R f b)
    plain_solution = same_plain _ (plain_of_dense R f b) rows solves.cols
        (λ i j. ap (λ n. nat_lt i n && nat_lt j x.ncols) rows
        ∙ ap (λ n. nat_lt i b.nrows && nat_lt j n) solves.cols) value_is

module _ (R : CommRing) {T : Type 0} (f : T → R.Carrier) (m : Compressed T) where
  pub lower_proper : IsProper (plain_lower R (plain_of_cols R f m))
  lower_proper = proper_kept R (λ i j. nat_le j i) (plain_of_cols R f m)

  pub lower_within : IsSound m → IsWithin (plain_lower R (plain_of_cols R f m))
  lower_within sound = within_kept R (λ i j. nat_le j i) (plain_of_cols R f m)
      (within_transpose R (plain_of_rows R f m) (rows_within R f m sound))

-- columns that solve the system of an operand are a solution of plain matrices
pub op_solution : (R : CommRing) {T X : Type 0} (f : T → R.Carrier) (z : T) (zero : f z ≡ R.zero)
    (see : X → Compressed T) (l : Op X) (x b : Dense T)
    → (see (inner_of l)).pattern.minor_dim ≡ (see (inner_of l)).pattern.major_dim
    → b.nrows ≡ (see (inner_of l)).pattern.major_dim
    → (0 < b.ncols → IsSound (see (inner_of l)))
    → SolvesColumns R f z (op_lower R f see l) x b
    → IsSolution R (plain_op R (λ m. plain_lower R (plain_of_cols R f (see m))) l)
    (plain_of_dense R f x) (plain_of_dense R f b)
op_solution R f z zero see (NoOp m) x b square rows sound solves =
    plain_solution R f z zero (plain_lower R (plain_of_cols R f (see m))) x b (square ∙ sym rows)
    (sym rows) (lower_proper R f (see m)) (λ some. lower_within R f (see m) (sound some)) solves
op_solution R f z zero see (Transpose m) x b square rows sound solves =
    let lower = plain_lower R (plain_of_cols R f (see m)) in
    plain_solution R f z zero (plain_transpose R lower) x b (sym rows) (square ∙ sym rows)
    (proper_transpose R lower (lower_proper R f (see m)))
    (λ some. within_transpose R lower (lower_within R f (see m) (sound some))) solves
