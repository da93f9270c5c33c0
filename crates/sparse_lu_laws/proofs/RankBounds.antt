-- The number of pivots is the rank.
use Rattle.std.proofs.Common.{◌≡◌, ℕ, ◌<◌, inl, inr, true, List, length, get_or, ap, sym, ◌∙◌}
use Rattle.std.proofs.Common.{refl, arith}
use Rattle.sparse_algebra.proofs.Cases.{lt_or_ge}
use Rattle.sparse_algebra.specs.Algebra.{CommRing}
use Rattle.sparse_algebra.specs.Sums.{sum_below}
use Rattle.sparse_algebra.specs.Plain.{Plain}
use Rattle.sparse_permutation.proofs.Orders.{order_below, inverse_exists}
use Rattle.sparse_lu_laws.specs.Lu.{IsLu}
use Rattle.sparse_lu_laws.specs.Ranks.{IsFactoredThrough, IsLocal, HasRank}
use Rattle.sparse_lu_laws.proofs.FullRank.{lu_at}
use Rattle.sparse_lu_laws.proofs.InnerSizes.{HaveProduct, inner_size}

module _ (R : CommRing) {T : Type 0} (f : T → R.Carrier) {a l u : Plain R} {p q : List ℕ} {r : ℕ}
    (lu : IsLu R f a l u p q r) where
  -- a is P⁻¹ L times U Q⁻¹
  pub factored_through_pivots : IsFactoredThrough R r a
  factored_through_pivots =
      let back_p = inverse_exists p lu.row_order in
      let back_q = inverse_exists q lu.col_order in
      let b : Plain R = record {
        rows = a.rows;
        cols = r;
        has = λ i k. true;
        value = λ i k. l.value (get_or back_p.0 i 0) k;
      } in
      let c : Plain R = record {
        rows = r;
        cols = a.cols;
        has = λ k j. true;
        value = λ k j. u.value k (get_or back_q.0 j 0);
      } in (
        b,
        c,
        record {
          rows = refl;
          inner_cols = refl;
          inner_rows = refl;
          cols = refl;
          equation = λ i j row col.
              let count_p = lu.row_count in
              let count_q = lu.col_count in
              let in_p : get_or back_p.0 i 0 < length back_p.0 = order_below back_p.2 i
              (omega (arith, back_p.1.count)) in
              let in_q : get_or back_q.0 j 0 < length back_q.0 = order_below back_q.2 j
              (omega (arith, back_q.1.count)) in
              lu_at R f lu (get_or back_p.0 i 0) (get_or back_q.0 j 0)
              (omega (arith, back_p.1.count)) (omega (arith, back_q.1.count))
              ∙ ap (λ n. a.value n (get_or q (get_or back_q.0 j 0) 0))
              (back_p.1.right i (omega arith)) ∙ ap (a.value i) (back_q.1.right j (omega arith));
        },
      )

  -- the rows p 0 .. p (r - 1) and the columns q 0 .. q (r - 1) of a are a product of triangles
  triangles_product : (s : ℕ) (h : IsFactoredThrough R s a)
      → HaveProduct R f r s l.value u.value (λ i k. h.0.value (get_or p i 0) k)
      (λ k j. h.1.value k (get_or q j 0))
  triangles_product s h = record {
    units = lu.factors.units;
    ones = lu.factors.ones;
    above = lu.factors.above;
    below = lu.factors.below;
    same = λ i j row col.
        let in_rows : i < a.rows = omega (arith, lu.factors.tall, lu.lower_rows) in
        let in_cols : j < a.cols = omega (arith, lu.factors.wide, lu.upper_cols) in
        lu_at R f lu i j in_rows in_cols
        ∙ sym (h.2.equation (get_or p i 0) (get_or q j 0)
        (omega (arith, lu.row_count, order_below lu.row_order i (omega (arith, lu.row_count))))
        (omega (arith, lu.col_count, order_below lu.col_order j (omega (arith, lu.col_count)))))
        ∙ ap (λ n. sum_below R n (λ k. R.mul (h.0.value (get_or p i 0) k)
        (h.1.value k (get_or q j 0)))) h.2.inner_cols;
  }

  pub pivots_rank : IsLocal R f → HasRank R a r
  pivots_rank local = record {
    factored = factored_through_pivots;
    least = λ s h. elim (lt_or_ge s r) [
      | inl less ↦ absurd (inner_size R f local r s _ _ _ _ (triangles_product s h) less)
      | inr most ↦ most
    ];
  }

pub one_rank : (R : CommRing) (a : Plain R) (r s : ℕ) → HasRank R a r → HasRank R a s → r ≡ s
one_rank R a r s first second =
    omega (arith, first.least s second.factored, second.least r first.factored)
