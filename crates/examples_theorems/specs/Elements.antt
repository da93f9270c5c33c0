-- Matrices assembled from element matrices whose rows and columns are numbered.
use Rattle.std.specs.Prelude.{◌≡◌, ℕ, ◌<◌, ◌&&◌, nat_eq, Bool, All, List, length, slice_index}
use Rattle.nalgebra_sparse.specs.Algebra.{CommRing}
use Rattle.nalgebra_sparse.specs.DensePlain.{plain_of_dense}
use Rattle.nalgebra_sparse.specs.Plain.{Plain, any_below}
use Rattle.nalgebra_sparse.specs.Sums.{sum_below, where_true}
use Rattle.examples_theorems.specs.declared.parts.Element.{Element}
use Rattle.examples_theorems.specs.Assembly.{plain_total}

module _ {T : Type 0} where
  -- a number for each row and each column, within this shape
  pub record IsNumbered (nrows ncols : ℕ) (e : Element T) : Type 0 where
    pub row_count : length e.rows.items ≡ e.matrix.nrows
    pub col_count : length e.cols.items ≡ e.matrix.ncols
    pub rows_below : All (λ i. i < nrows) e.rows.items
    pub cols_below : All (λ j. j < ncols) e.cols.items

  -- whether row k is numbered i, and column l is numbered j
  abbrev pub is_numbered_at : Element T → ℕ → ℕ → ℕ → ℕ → Bool
  is_numbered_at e k l i j =
      nat_eq (slice_index e.rows.items k) i && nat_eq (slice_index e.cols.items l) j

  module _ (R : CommRing) (f : T → R.Carrier) where
    -- at (i, j) the sum of the element's values in rows numbered i and columns numbered j
    abbrev pub numbered_element : ℕ → ℕ → Element T → Plain R
    numbered_element nrows ncols e = record {
      rows = nrows;
      cols = ncols;
      has = λ i j. any_below e.matrix.nrows (λ k. any_below e.matrix.ncols
          (λ l. is_numbered_at e k l i j));
      value = λ i j. sum_below R e.matrix.nrows (λ k. sum_below R e.matrix.ncols
          (λ l. where_true R (is_numbered_at e k l i j)
          ((plain_of_dense R f e.matrix).value k l)));
    }

    -- the sum of the elements
    abbrev pub elements_sum : ℕ → ℕ → List (Element T) → Plain R
    elements_sum nrows ncols elements =
        plain_total R nrows ncols (numbered_element nrows ncols) elements
