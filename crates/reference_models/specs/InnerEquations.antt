-- The steps of a factorisation that solves the equations column by column.
use Rattle.std.specs.Prelude.{◌≡◌, ℕ, ◌*◌, ◌<◌, List, length}
use Rattle.sparse_algebra.specs.Algebra.{CommRing}
use Rattle.sparse_algebra.specs.Sums.{sum_below}
use Rattle.sparse_coo_dense.specs.Dense.{Dense}
use Rattle.sparse_coo_dense.specs.DensePlain.{plain_of_dense}
use Rattle.sparse_factor.specs.InnerFactors.{ArePartFactors, term}
use Rattle.sparse_dense_ops.specs.SparseVectors.{elements}
use Rattle.reference_models.specs.DenseFactors.{dense_symmetric}

-- the matrices a and L and the diagonal d have one size
pub record HaveOneSize {T : Type 0} (a l : Dense T) (d : List T) : Type 0 where
  pub square : a.ncols ≡ a.nrows
  pub rows : l.nrows ≡ a.nrows
  pub cols : l.ncols ≡ a.nrows
  pub pivots : length d ≡ a.nrows
  pub full : length l.values ≡ l.nrows * l.ncols

module _ (R : CommRing) where
  -- the value of m at (i, j), less the terms of the first j columns
  abbrev pub left_of : (ℕ → ℕ → R.Carrier) → (ℕ → ℕ → R.Carrier) → (ℕ → R.Carrier) → ℕ → ℕ
      → R.Carrier
  left_of m l d j i = R.add (m i j) (R.neg (sum_below R j (term R l d i j)))

module _ (R : CommRing) {T : Type 0} (f : T → R.Carrier) (z : T) where
  -- the same for dense matrices
  abbrev pub left_at : Dense T → Dense T → List T → ℕ → ℕ → R.Carrier
  left_at a l d j i = left_of R (dense_symmetric R f a).value (plain_of_dense R f l).value
      (elements R f z d) j i

  -- column j below the diagonal becomes what remains there, times e; the rest is unchanged
  pub record IsColumnDivided (a : Dense T) (d : List T) (j : ℕ) (e : R.Carrier) (x y : Dense T)
      : Type 0 where
    pub rows : y.nrows ≡ x.nrows
    pub cols : y.ncols ≡ x.ncols
    pub full : length y.values ≡ y.nrows * y.ncols
    pub divided : (i : ℕ) → j < i → i < a.nrows
        → (plain_of_dense R f y).value i j ≡ R.mul (left_at a x d j i) e
    pub kept : (i c : ℕ) → (c ≡ j → j < i → ⊥)
        → (plain_of_dense R f y).value i c ≡ (plain_of_dense R f x).value i c

  -- the first j columns of L and entries of d are those of a factorisation, the others are zero
  pub record AreFirstFactors (a l : Dense T) (d : List T) (j : ℕ) : Type 0 where
    pub size : HaveOneSize a l d
    pub part : ArePartFactors R f a.nrows j (dense_symmetric R f a).value
        (plain_of_dense R f l).value (elements R f z d)
    pub above : (i c : ℕ) → i < c → (plain_of_dense R f l).value i c ≡ R.zero

module _ (R : CommRing) {T : Type 0} (f : T → R.Carrier) where
  abbrev pub HasNoColumns : Dense T → Type 0
  HasNoColumns a = (l : ℕ → ℕ → R.Carrier) (d : ℕ → R.Carrier)
      → ArePartFactors R f a.nrows a.nrows (dense_symmetric R f a).value l d → ⊥
