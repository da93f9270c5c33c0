-- A triangular system of plain matrices has at most one solution.
use Rattle.std.proofs.Common.{◌≡◌, ℕ, ◌-◌, ◌<◌, inl, inr, true, ap, sym, subst, ◌∙◌, refl, arith}
use Rattle.std.specs.Prelude.{nat_le}
use Rattle.std.proofs.lemmas.Bool.Decides.{nat_tests}
use Rattle.sparse_algebra.proofs.Cases.{and_both, and_parts, lt_or_gt}
use Rattle.sparse_algebra.specs.Algebra.{CommRing}
use Rattle.sparse_algebra.specs.Sums.{sum_below}
use Rattle.sparse_algebra.specs.Plain.{Plain, IsProper, plain_transpose}
use Rattle.sparse_algebra.specs.declared.operand.Op.{Op}
use Rattle.sparse_algebra.specs.declared.operand.Op.TheVariants.{NoOp, Transpose}
use Rattle.sparse_algebra.specs.Operands.{inner_of, plain_op}
use Rattle.sparse_dense_ops.specs.Solutions.{plain_lower, IsSolution, HasPivot, HasSameValues}
use Rattle.sparse_dense_ops.specs.InnerColumns.{SolvesColumn}
use Rattle.sparse_dense_ops.proofs.ColumnSteps.{lower_is, lower_zero}
use Rattle.sparse_dense_ops.proofs.Uniqueness.{one_column_solution}

module _ (R : CommRing) where
  -- each column of a plain solution solves the equations of its column of b
  column_solves : (t x b : Plain R) (n j : ℕ) → t.cols ≡ n → IsSolution R t x b
      → SolvesColumn R n t.value (λ k. x.value k j) (λ i. b.value i j)
  column_solves t x b n j cols h i lt = ap
      (λ n. sum_below R n (λ k. R.mul (t.value i k) (x.value k j))) (sym cols)
      ∙ ap (λ (m : Plain R). m.value i j) h

  module _ (a : Plain R) (proper : IsProper a) (square : a.cols ≡ a.rows)
      (inverse : (k : ℕ) → k < a.rows → (e : R.Carrier) × (R.mul (a.value k k) e ≡ R.one))
      (x y b : Plain R) (m : ℕ) where
    inverse_lower : (k : ℕ) → k < a.rows
        → (e : R.Carrier) × (R.mul ((plain_lower R a).value k k) e ≡ R.one)
    inverse_lower k lt = let e = inverse k lt in (
      e.0,
      ap (λ c. R.mul c e.0) (lower_is R a proper k k (omega arith)) ∙ e.1,
    )

    pub one_solution : IsSolution R (plain_lower R a) x b → IsSolution R (plain_lower R a) y b
        → HasSameValues R a.rows m x y
    one_solution hx hy i j row col = one_column_solution R a.rows (plain_lower R a).value (λ i. i)
        (λ i k _ ne. elim (lt_or_gt k i ne) [
          | inl before ↦ inl before
          | inr behind ↦ inr (lower_zero R a i k behind)
        ]) inverse_lower (λ k. x.value k j) (λ k. y.value k j) (λ i. b.value i j)
        (column_solves (plain_lower R a) x b a.rows j square hx)
        (column_solves (plain_lower R a) y b a.rows j square hy) i row

    pub one_transposed_solution : IsSolution R (plain_transpose R (plain_lower R a)) x b
        → IsSolution R (plain_transpose R (plain_lower R a)) y b → HasSameValues R a.rows m x y
    one_transposed_solution hx hy i j row col =
        let t = plain_transpose R (plain_lower R a) in
        one_column_solution R a.rows t.value (λ i. a.rows - i)
        (λ i k lt ne. elim (lt_or_gt k i ne) [
          | inl before ↦ inr (lower_zero R a k i before)
          | inr behind ↦ inl (omega (arith, behind, lt))
        ]) inverse_lower (λ k. x.value k j) (λ k. y.value k j) (λ i. b.value i j)
        (column_solves t x b a.rows j refl hx) (column_solves t y b a.rows j refl hy) i row

  -- the diagonal of the lower triangle is that of the matrix
  module _ {T : Type 0} (f : T → R.Carrier) (a : Plain R) (proper : IsProper a) (k : ℕ) where
    diagonal_test : nat_le k k ≡ true
    diagonal_test = grind (arith, nat_tests)

    pub pivot_of_lower : HasPivot R f (plain_lower R a) k → HasPivot R f a k
    pivot_of_lower h = (
      (and_parts (a.has k k) (nat_le k k) h.0).0,
      (h.1.0, ap (λ c. R.mul c (f h.1.0)) (sym (lower_is R a proper k k (omega arith))) ∙ h.1.1),
    )

    pub lower_has_pivot : HasPivot R f a k → HasPivot R f (plain_lower R a) k
    lower_has_pivot h = (
      and_both (a.has k k) (nat_le k k) h.0 diagonal_test,
      (h.1.0, ap (λ c. R.mul c (f h.1.0)) (lower_is R a proper k k (omega arith)) ∙ h.1.1),
    )

  -- the same for an operand: x and y are equal if y solves op(T) and x solves op of a triangle
  -- equal to T
  pub op_one_solution : {X : Type 0} (cols : X → Plain R) (l : Op X) (lower x y b : Plain R) (m : ℕ)
      → IsProper (cols (inner_of l)) → (cols (inner_of l)).cols ≡ (cols (inner_of l)).rows
      → ((k : ℕ) → k < (cols (inner_of l)).rows → (e : R.Carrier)
      × (R.mul ((cols (inner_of l)).value k k) e ≡ R.one))
      → lower ≡ plain_lower R (cols (inner_of l)) → IsSolution R (plain_op R (λ _. lower) l) x b
      → IsSolution R (plain_op R (λ c. plain_lower R (cols c)) l) y b
      → HasSameValues R (cols (inner_of l)).rows m x y
  op_one_solution cols (NoOp l) lower x y b m proper square inverse same hx hy =
      one_solution (cols l) proper square inverse x y b m (subst (λ t. IsSolution R t x b) same hx)
      hy
  op_one_solution cols (Transpose l) lower x y b m proper square inverse same hx hy =
      one_transposed_solution (cols l) proper square inverse x y b m
      (subst (λ t. IsSolution R (plain_transpose R t) x b) same hx) hy
