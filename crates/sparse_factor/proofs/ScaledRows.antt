-- Rows of a dense matrix, each multiplied by its own number.
use Rattle.std.proofs.Common.{◌≡◌, ℕ, ◌+◌, ◌<◌, inl, inr, List, length, get_or, ap, sym, subst, ◌∙◌}
use Rattle.std.proofs.Common.{◌≤◌, set, get_or-set_same, get_or-set_other, arith}
use Rattle.std.proofs.lemmas.List.{get_or_default}
use Rattle.sparse_algebra.proofs.Cases.{lt_add_one_cases, lt_or_ge}
use Rattle.sparse_algebra.proofs.RingLemmas.{mul_zero}
use Rattle.sparse_algebra.specs.Algebra.{CommRing}
use Rattle.sparse_coo_dense.specs.Dense.{Dense, value_at, column_of, with_column}
use Rattle.sparse_coo_dense.specs.DensePlain.{plain_of_dense}
use Rattle.sparse_dense_ops.specs.SparseVectors.{elements}
use Rattle.sparse_dense_ops.proofs.PlainSolutions.{dense_inside, dense_past_cols}
use Rattle.sparse_dense_ops.proofs.RingSteps.{divided}
use Rattle.sparse_dense_ops.proofs.SolvedColumns.{with_column-here, with_column-other}
use Rattle.sparse_factor.specs.InnerFactors.{AreInverses, AreScaledBelow, IsScaled}

-- the first i entries of y are those of x times those of `factors`, and the other entries are the
-- same
pub record AreScaledTo (R : CommRing) {T : Type 0} (f : T → R.Carrier) (z : T) (i : ℕ)
    (factors x y : List T) : Type 0 where
  pub scaled : (k : ℕ) → k < i
      → elements R f z y k ≡ R.mul (elements R f z x k) (elements R f z factors k)
  pub waiting : (k : ℕ) → i ≤ k → elements R f z y k ≡ elements R f z x k

module _ {R : CommRing} {T : Type 0} {f : T → R.Carrier} {z : T} {factors : List T} where
  -- one more entry
  pub scaled_entry : {i : ℕ} {x y : List T} {u v w : T} → AreScaledTo R f z i factors x y
      → i < length y → i < length factors → u ≡ get_or y i u → v ≡ get_or factors i v
      → f w ≡ R.mul (f u) (f v) → AreScaledTo R f z (i + 1) factors x (set y i w)
  scaled_entry {i} {x} {y} {u} {v} {w} h in_y in_factors read factor is = record {
    scaled = λ k lt. elim (lt_add_one_cases k i lt) [
      | inl less ↦ ap f (get_or-set_other y i k w z (λ same. omega (arith, same, less)))
          ∙ h.scaled k less
      | inr same ↦ subst (λ k. elements R f z (set y i w) k
          ≡ R.mul (elements R f z x k) (elements R f z factors k)) (sym same)
          (ap f (get_or-set_same y i w z in_y) ∙ is
          ∙ ap (λ c. R.mul c (f v)) (ap f (read ∙ get_or_default y i u z in_y)
          ∙ h.waiting i (omega arith))
          ∙ ap (λ t. R.mul (elements R f z x i) (f t))
          (factor ∙ get_or_default factors i v z in_factors))
    ];
    waiting = λ k le. ap f (get_or-set_other y i k w z (λ same. omega (arith, same, le)))
        ∙ h.waiting k (omega arith);
  }

  -- one more column
  pub scaled_more : {j : ℕ} {b x : Dense T} {old : List T} (ws : List T)
      → AreScaledBelow R f z j factors b x → old ≡ column_of x j → length old ≡ x.nrows
      → length ws ≡ length old
      → ((i : ℕ) (z : T) → i < x.nrows → get_or old i z ≡ value_at x i j z)
      → IsScaled R f z factors old ws → AreScaledBelow R f z (j + 1) factors b (with_column x j ws)
  scaled_more {j} {b} {x} ws h is long same read scales =
      let full : length (column_of x j) ≡ x.nrows = ap length (sym is) ∙ long in
      let count : length ws ≡ x.nrows = same ∙ long in
      record {
        rows = h.rows;
        cols = h.cols;
        scaled = λ i l lt to.
            let row : i < x.nrows = omega (arith, lt, h.rows) in
            elim (lt_add_one_cases l j to) [
              | inl before ↦ ap f (with_column-other x j ws full count i l z row
                  (λ e. omega (arith, e, before))) ∙ h.scaled i l lt before
              | inr here ↦ subst (λ l. f (value_at (with_column x j ws) i l z)
                  ≡ R.mul (f (value_at b i l z)) (elements R f z factors i)) (sym here)
                  (ap f (with_column-here x j ws full count i z row)
                  ∙ scales i (omega (arith, row, long))
                  ∙ ap (λ v. R.mul (f v) (elements R f z factors i))
                  (read i z row ∙ h.behind i j lt (omega arith)))
            ];
        behind = λ i l lt over. with_column-other x j ws full count i l z
            (omega (arith, lt, h.rows)) (λ e. omega (arith, e, over))
            ∙ h.behind i l lt (omega arith);
      }

  -- rows multiplied by the inverses of d, and then by d, are as before
  pub plain_divided : {d : List T} {y w : Dense T} → f z ≡ R.zero → AreInverses R f z d factors
      → AreScaledBelow R f z y.ncols factors y w → (c j : ℕ) → c < y.nrows → c < length d
      → R.mul (elements R f z d c) ((plain_of_dense R f w).value c j)
      ≡ (plain_of_dense R f y).value c j
  plain_divided {d} {y} {w} zero inverses h c j lt in_d = elim (lt_or_ge j y.ncols) [
    | inl inside ↦
        ap (R.mul (elements R f z d c)) (dense_inside R f z zero w c j
        (omega (arith, lt, h.rows)) (omega (arith, inside, h.cols)) ∙ h.scaled c j lt inside)
        ∙ divided R (elements R f z d c) (elements R f z factors c) (f (value_at y c j z))
        (inverses.inverts c in_d)
        ∙ sym (dense_inside R f z zero y c j lt inside)
    | inr past ↦
        ap (R.mul (elements R f z d c))
        (dense_past_cols R f z zero w c j (omega (arith, past, h.cols)))
        ∙ mul_zero R (elements R f z d c) ∙ sym (dense_past_cols R f z zero y c j past)
  ]
