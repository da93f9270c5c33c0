-- Blocks of rows and of columns of plain matrices, and matrices stacked one below the other.
use Rattle.std.specs.Prelude.{ℕ, ◌+◌, ◌-◌, ◌&&◌, false, nat_lt, if◌then◌else◌, List, [], ◌∷◌}
use Rattle.nalgebra_sparse.specs.Algebra.{CommRing}
use Rattle.nalgebra_sparse.specs.Plain.{Plain}
use Rattle.nalgebra_sparse.specs.Sums.{where_true}

-- the sum of a list of sizes
abbrev pub total_size : List ℕ → ℕ
total_size [] = 0
total_size (n ∷ ns) = n + total_size ns

module _ (R : CommRing) where
  -- `count` rows of a matrix, from the row `start` on
  abbrev pub row_block : ℕ → ℕ → Plain R → Plain R
  row_block start count a = record {
    rows = count;
    cols = a.cols;
    has = λ i j. nat_lt i count && a.has (start + i) j;
    value = λ i j. where_true R (nat_lt i count) (a.value (start + i) j);
  }

  -- `count` columns of a matrix, from the column `start` on
  abbrev pub col_block : ℕ → ℕ → Plain R → Plain R
  col_block start count a = record {
    rows = a.rows;
    cols = count;
    has = λ i j. nat_lt j count && a.has i (start + j);
    value = λ i j. where_true R (nat_lt j count) (a.value i (start + j));
  }

  -- blocks of rows of these sizes, one after the other from the row `start` on
  abbrev pub row_blocks : ℕ → List ℕ → Plain R → List (Plain R)
  row_blocks start [] a = []
  row_blocks start (n ∷ ns) a = row_block start n a ∷ row_blocks (start + n) ns a

  -- a matrix above another one with as many columns
  abbrev pub above : Plain R → Plain R → Plain R
  above a b = record {
    rows = a.rows + b.rows;
    cols = a.cols;
    has = λ i j. if nat_lt i a.rows then a.has i j else b.has (i - a.rows) j;
    value = λ i j. if nat_lt i a.rows then a.value i j else b.value (i - a.rows) j;
  }

  -- matrices with this many columns, one below the other
  abbrev pub stacked : ℕ → List (Plain R) → Plain R
  stacked cols [] = record {
    rows = 0;
    cols = cols;
    has = λ i j. false;
    value = λ i j. R.zero;
  }
  stacked cols (a ∷ rest) = above a (stacked cols rest)
