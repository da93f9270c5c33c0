-- Over a local ring, a product of triangles with r pivots has no factors with an inner size below r: an elimination
-- with one pivot of the triangles, and one term of the other product, leaves such products with one less of each.
use Rattle.std.proofs.Common.{◌≡◌, ℕ, zero, suc, ◌<◌, ap, sym, ◌∙◌, arith}
use Rattle.sparse_algebra.specs.Algebra.{CommRing}
use Rattle.sparse_algebra.specs.Sums.{sum_below}
use Rattle.sparse_algebra.specs.Inverses.{HasInverse}
use Rattle.sparse_algebra.proofs.RingLemmas.{zero_mul, mul_zero, zero_add}
use Rattle.sparse_dense_ops.proofs.RingSteps.{mul_off, add_off}
use Rattle.sparse_lu_laws.specs.Ranks.{IsLocal}
use Rattle.sparse_lu_laws.proofs.Sums.{sum_below-single}
use Rattle.sparse_lu_laws.proofs.Eliminations.{skip, sum_below-first, sum_below-skip}
use Rattle.sparse_lu_laws.proofs.Eliminations.{row_combination, column_combination}
use Rattle.sparse_lu_laws.proofs.Eliminations.{cleared_value, cleared_pivot, left_over}

-- l and u are triangles with r pivots, and their product is x y, whose inner size is s
pub record HaveProduct (R : CommRing) {T : Type 0} (f : T → R.Carrier) (r s : ℕ)
    (l u x y : ℕ → ℕ → R.Carrier) : Type 0 where
  pub units : (k : ℕ) → k < r → HasInverse R f (l k k)
  pub ones : (k : ℕ) → k < r → u k k ≡ R.one
  pub above : (i k : ℕ) → i < k → k < r → l i k ≡ R.zero
  pub below : (k j : ℕ) → j < k → k < r → u k j ≡ R.zero
  pub same : (i j : ℕ) → i < r → j < r → sum_below R r (λ k. R.mul (l i k) (u k j))
      ≡ sum_below R s (λ k. R.mul (x i k) (y k j))

module _ (R : CommRing) {T : Type 0} (f : T → R.Carrier) where
  -- ---- the first row and column of the product

  module _ (r s : ℕ) (l u x y : ℕ → ℕ → R.Carrier) (h : HaveProduct R f (suc r) s l u x y) where
    first_row : (j : ℕ) → j < suc r
        → sum_below R s (λ k. R.mul (x 0 k) (y k j)) ≡ R.mul (l 0 0) (u 0 j)
    first_row j less = sym (h.same 0 j (omega arith) less)
        ∙ sum_below-single R (suc r) 0 (λ k. R.mul (l 0 k) (u k j)) (omega arith)
        (λ k lt other. mul_off R (l 0 k) (u k j) (h.above 0 k (omega arith) lt))

    first_column : (i : ℕ) → i < suc r
        → sum_below R s (λ k. R.mul (x i k) (y k 0)) ≡ R.mul (l i 0) (u 0 0)
    first_column i less = sym (h.same i 0 less (omega arith))
        ∙ sum_below-single R (suc r) 0 (λ k. R.mul (l i k) (u k 0)) (omega arith)
        (λ k lt other. ap (R.mul (l i k)) (h.below k 0 (omega arith) lt) ∙ mul_zero R (l i k))

    first_unit : HasInverse R f (sum_below R s (λ k. R.mul (x 0 k) (y k 0)))
    first_unit =
        let inverse = h.units 0 (omega arith) in (
          inverse.0,
          ap (λ c. R.mul c (f inverse.0)) (first_row 0 (omega arith)
              ∙ ap (R.mul (l 0 0)) (h.ones 0 (omega arith)) ∙ R.laws.mul_one (l 0 0)) ∙ inverse.1,
        )

  -- ---- one step, with the term q of the first value

  module _ (r s : ℕ) (l u x y : ℕ → ℕ → R.Carrier)
      (h : HaveProduct R f (suc r) (suc s) l u x y) (q : ℕ) (less : q < suc s)
      (inverse : HasInverse R f (R.mul (x 0 q) (y q 0))) where
    -- the inverses of l 0 0 and of y q 0
    pub first_inverse : HasInverse R f (l 0 0)
    first_inverse = h.units 0 (omega arith)

    abbrev over_l : R.Carrier
    over_l = f first_inverse.0

    abbrev over_y : R.Carrier
    over_y = R.mul (x 0 q) (f inverse.0)

    over_y_is : R.mul (y q 0) over_y ≡ R.one
    over_y_is = sym (R.laws.mul_assoc (y q 0) (x 0 q) (f inverse.0))
        ∙ ap (λ c. R.mul c (f inverse.0)) (R.laws.mul_comm (y q 0) (x 0 q)) ∙ inverse.1

    -- the rows below the first, without column 0 of the product
    abbrev row_factor : ℕ → R.Carrier
    row_factor i = R.neg (R.mul (l (suc i) 0) over_l)

    abbrev rows_left : ℕ → ℕ → R.Carrier
    rows_left i k = R.add (x (suc i) k) (R.mul (row_factor i) (x 0 k))

    -- the columns after the first, without row q of y
    abbrev column_factor : ℕ → R.Carrier
    column_factor j = R.neg (R.mul over_y (y q (suc j)))

    abbrev columns_left : ℕ → ℕ → R.Carrier
    columns_left k j = R.add (y k (suc j)) (R.mul (y k 0) (column_factor j))

    -- of a + c b, where a and b are the values of rows i and 0 of the product
    combined : (i : ℕ) (a b : R.Carrier) (z : ℕ → R.Carrier)
        → sum_below R (suc s) (λ k. R.mul (x (suc i) k) (z k)) ≡ a
        → sum_below R (suc s) (λ k. R.mul (x 0 k) (z k)) ≡ b
        → sum_below R (suc s) (λ k. R.mul (rows_left i k) (z k))
        ≡ R.add a (R.mul (row_factor i) b)
    combined i a b z first second =
        row_combination R (suc s) (row_factor i) (x (suc i)) (x 0) z
        ∙ ap (λ c. R.add c (R.mul (row_factor i) (sum_below R (suc s) (λ k. R.mul (x 0 k) (z k)))))
        first ∙ ap (λ c. R.add a (R.mul (row_factor i) c)) second

    column_cleared : (i : ℕ) → i < r
        → sum_below R (suc s) (λ k. R.mul (rows_left i k) (y k 0)) ≡ R.zero
    column_cleared i lt =
        combined i _ _ (λ k. y k 0) (first_column r (suc s) l u x y h (suc i) (omega arith))
        (first_row r (suc s) l u x y h 0 (omega arith))
        ∙ cleared_value R (l 0 0) over_l (l (suc i) 0) (u 0 0) first_inverse.1

    -- the product of the triangles without their first row and column
    abbrev product_left : ℕ → ℕ → R.Carrier
    product_left i j = sum_below R r (λ k. R.mul (l (suc i) (suc k)) (u (suc k) (suc j)))

    rows_product : (i j : ℕ) → i < r → j < r
        → sum_below R (suc s) (λ k. R.mul (rows_left i k) (y k (suc j))) ≡ product_left i j
    rows_product i j row col =
        combined i _ _ (λ k. y k (suc j))
        (sym (h.same (suc i) (suc j) (omega arith) (omega arith))
        ∙ sum_below-first R r (λ k. R.mul (l (suc i) k) (u k (suc j))))
        (first_row r (suc s) l u x y h (suc j) (omega arith))
        ∙ left_over R (R.mul (l (suc i) 0) (u 0 (suc j))) (product_left i j) _
        (cleared_value R (l 0 0) over_l (l (suc i) 0) (u 0 (suc j)) first_inverse.1)

    left_product : (i j : ℕ) → i < r → j < r
        → sum_below R (suc s) (λ k. R.mul (rows_left i k) (columns_left k j)) ≡ product_left i j
    left_product i j row col =
        column_combination R (suc s) (column_factor j) (rows_left i) (λ k. y k (suc j)) (λ k. y k 0)
        ∙ add_off R _ _ (mul_off R _ (column_factor j) (column_cleared i row))
        ∙ rows_product i j row col

    pub smaller_product : HaveProduct R f r s (λ i k. l (suc i) (suc k)) (λ k j. u (suc k) (suc j))
        (λ i k. rows_left i (skip q k)) (λ k j. columns_left (skip q k) j)
    smaller_product = record {
      units = λ k lt. h.units (suc k) (omega arith);
      ones = λ k lt. h.ones (suc k) (omega arith);
      above = λ i k before lt. h.above (suc i) (suc k) (omega arith) (omega arith);
      below = λ k j before lt. h.below (suc k) (suc j) (omega arith) (omega arith);
      same = λ i j row col.
          let term : ℕ → R.Carrier = λ k. R.mul (rows_left i k) (columns_left k j) in
          let none : term q ≡ R.zero = ap (R.mul (rows_left i q))
          (cleared_pivot R (y q 0) over_y (y q (suc j)) over_y_is) ∙ mul_zero R (rows_left i q) in
          sym (left_product i j row col) ∙ sum_below-skip R s q term less
          ∙ ap (λ c. R.add c (sum_below R s (λ k. term (skip q k)))) none
          ∙ zero_add R (sum_below R s (λ k. term (skip q k)));
    }

  -- ---- all steps

  module _ (local : IsLocal R f) where
    -- a sum of elements without inverses has none
    no_unit_sum : (n : ℕ) (g : ℕ → R.Carrier) → ((k : ℕ) → k < n → ¬ HasInverse R f (g k))
        → ¬ HasInverse R f (sum_below R n g)
    no_unit_sum zero g none inverse =
        local.nonzero (sym inverse.1 ∙ zero_mul R (f inverse.0))
    no_unit_sum (suc n) g none inverse =
        local.sum (sum_below R n g) (g n) (no_unit_sum n g (λ k less. none k (omega arith)))
        (none n (omega arith)) inverse

    pub inner_size : (r s : ℕ) (l u x y : ℕ → ℕ → R.Carrier) → HaveProduct R f r s l u x y
        → s < r → ⊥
    inner_size zero s l u x y h less = absurd (omega arith)
    inner_size (suc r) zero l u x y h less =
        no_unit_sum zero (λ k. R.mul (x 0 k) (y k 0)) (λ k lt. absurd (omega arith))
        (first_unit r zero l u x y h)
    inner_size (suc r) (suc s) l u x y h less =
        no_unit_sum (suc s) (λ k. R.mul (x 0 k) (y k 0))
        (λ q lt inverse. inner_size r s _ _ _ _ (smaller_product r s l u x y h q lt inverse)
        (omega arith)) (first_unit r (suc s) l u x y h)
