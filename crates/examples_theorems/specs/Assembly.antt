-- Matrices assembled from dense blocks.
use Rattle.std.specs.Prelude.{ℕ, ◌+◌, ◌-◌, ◌≤◌, ◌&&◌, nat_le, List}
use Rattle.std.specs.List.{list_any}
use Rattle.nalgebra_sparse.specs.Algebra.{CommRing}
use Rattle.nalgebra_sparse.specs.DensePlain.{plain_of_dense}
use Rattle.nalgebra_sparse.specs.Plain.{Plain}
use Rattle.nalgebra_sparse.specs.Sums.{sum_by, where_true}
use Rattle.examples_theorems.specs.declared.parts.Block.{Block}

-- the block lies within a matrix of this shape
abbrev pub LiesWithin : {T : Type 0} → ℕ → ℕ → Block T → Type 0
LiesWithin nrows ncols b =
    (b.row + b.matrix.nrows ≤ nrows) × (b.col + b.matrix.ncols ≤ ncols)

module _ (R : CommRing) where
  -- the sum of the matrices g x: the union of their places, and the sums of their values
  abbrev pub plain_total : {X : Type 0} → ℕ → ℕ → (X → Plain R) → List X → Plain R
  plain_total nrows ncols g xs = record {
    rows = nrows;
    cols = ncols;
    has = λ i j. list_any (λ x. (g x).has i j) xs;
    value = λ i j. sum_by R (λ x. (g x).value i j) xs;
  }

  -- a matrix of zeros of this shape with `a` in it, whose row 0 and column 0 are row r and column c
  -- there
  abbrev pub placed : ℕ → ℕ → ℕ → ℕ → Plain R → Plain R
  placed nrows ncols r c a = record {
    rows = nrows;
    cols = ncols;
    has = λ i j. (nat_le r i && nat_le c j) && a.has (i - r) (j - c);
    value = λ i j. where_true R (nat_le r i && nat_le c j) (a.value (i - r) (j - c));
  }

  module _ {T : Type 0} (f : T → R.Carrier) where
    -- a block in a matrix of zeros
    abbrev pub placed_block : ℕ → ℕ → Block T → Plain R
    placed_block nrows ncols b = placed nrows ncols b.row b.col (plain_of_dense R f b.matrix)

    -- the sum of the blocks, each in a matrix of zeros
    abbrev pub assembled : ℕ → ℕ → List (Block T) → Plain R
    assembled nrows ncols blocks = plain_total nrows ncols (placed_block nrows ncols) blocks
