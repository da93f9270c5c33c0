-- Updates of the columns of a dense matrix by a product.
use denote.Ref.{Bor}
use Rattle.std.specs.Prelude.{◌≡◌, ℕ, ◌*◌, ◌<◌, ◌≤◌, List, length, slice_index_or}
use Rattle.sparse_algebra.specs.Algebra.{CommRing}
use Rattle.sparse_algebra.specs.declared.operand.Op.{Op}
use Rattle.sparse_algebra.specs.declared.operand.Op.TheVariants.{NoOp, Transpose}
use Rattle.sparse_coo_dense.specs.Dense.{Dense}
use Rattle.sparse_dense_ops.specs.InnerBlocks.{AreChanged}

-- the distance between neighbouring entries of a column of op(B) in the values of B
abbrev pub op_step : {T : Type 0} → Op (Bor (Dense T)) → ℕ
op_step (NoOp d) = 1
op_step (Transpose d) = d.now.nrows

-- for each k below n, the list has an element k * step
abbrev pub HasStrided : {T : Type 0} → List T → ℕ → ℕ → Type 0
HasStrided xs step n = (k : ℕ) → k < n → k * step < length xs

-- beta times an entry plus alpha times x
abbrev pub updated : (R : CommRing) {T : Type 0} → (T → R.Carrier) → R.Carrier → R.Carrier → T
    → R.Carrier → R.Carrier
updated R f beta alpha v x = R.add (R.mul beta (f v)) (R.mul alpha x)

module _ (R : CommRing) {T : Type 0} (f : T → R.Carrier) (z : T) (beta alpha : R.Carrier) where
  -- each entry of a column is updated by x of its row
  pub record IsUpdatedColumn (x : ℕ → R.Carrier) (old new : List T) : Type 0 where
    pub count : length new ≡ length old
    pub each : (i : ℕ) → i < length old
        → f (slice_index_or new i z) ≡ updated R f beta alpha (slice_index_or old i z) (x i)

  -- the first n entries are updated, and the others are unchanged
  pub record IsUpdatedBelow (n : ℕ) (x : ℕ → R.Carrier) (old new : List T) : Type 0 where
    pub count : length new ≡ length old
    pub before : (i : ℕ) → i < n
        → f (slice_index_or new i z) ≡ updated R f beta alpha (slice_index_or old i z) (x i)
    pub behind : (i : ℕ) → n ≤ i → slice_index_or new i z ≡ slice_index_or old i z

module _ (R : CommRing) {T : Type 0} (f : T → R.Carrier) (z : T) (beta alpha : R.Carrier) where
  -- each entry of column j is updated by x of its row and j
  abbrev pub UpdatesColumn : (ℕ → ℕ → R.Carrier) → ℕ → List T → List T → Type 0
  UpdatesColumn x j = IsUpdatedColumn R f z beta alpha (λ i. x i j)

  -- each entry of m columns with n entries is updated
  abbrev pub AreUpdated : ℕ → ℕ → (ℕ → ℕ → R.Carrier) → List T → List T → Type 0
  AreUpdated n m x = AreChanged n m (UpdatesColumn x)
