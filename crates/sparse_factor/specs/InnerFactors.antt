-- The first columns of a factorisation, and the next column after their updates.
use Rattle.std.specs.Prelude.{◌≡◌, ℕ, ◌<◌, ◌≤◌, List, length, slice_index, slice_index_or}
use Rattle.sparse_algebra.specs.Algebra.{CommRing}
use Rattle.sparse_algebra.specs.Sums.{sum_below}
use Rattle.sparse_pattern.specs.Raw.{Raw, start_of, end_of, IsInLane, IsEntry}
use Rattle.sparse_algebra.specs.Inverses.{HasInverse}
use Rattle.sparse_coo_dense.specs.Dense.{Dense, value_at}
use Rattle.sparse_dense_ops.specs.SparseVectors.{elements}

module _ (R : CommRing) where
  -- the term of column k in the sum for (i, j) of L D Lᵀ
  abbrev pub term : (ℕ → ℕ → R.Carrier) → (ℕ → R.Carrier) → ℕ → ℕ → ℕ → R.Carrier
  term l d i j k = R.mul (R.mul (l i k) (d k)) (l j k)

  -- the first j columns of l and entries of d are those of a factorisation of m
  pub record ArePartFactors {X : Type 0} (f : X → R.Carrier) (n j : ℕ) (m l : ℕ → ℕ → R.Carrier)
      (d : ℕ → R.Carrier) : Type 0 where
    pub unit : (c : ℕ) → c < j → l c c ≡ R.one
    pub upper : (i c : ℕ) → c < j → i < c → l i c ≡ R.zero
    pub pivots : (c : ℕ) → c < j → HasInverse R f (d c)
    pub columns : (i c : ℕ) → c < j → c ≤ i → i < n
        → R.add (sum_below R c (term l d i c)) (R.mul (l i c) (d c)) ≡ m i c

  -- w is b after the updates by the first k columns, from row j on: b less their terms
  abbrev pub IsUpdated : ℕ → ℕ → (ℕ → ℕ → R.Carrier) → (ℕ → R.Carrier) → ℕ → (ℕ → R.Carrier)
      → (ℕ → R.Carrier) → Type 0
  IsUpdated n j l d k w b = (i : ℕ) → j ≤ i → i < n
      → R.add (sum_below R k (term l d i j)) (w i) ≡ b i

-- c is the offset of the first row of column k from j on, or the end of the column
pub record IsCursor (p : Raw) (j k c : ℕ) : Type 0 where
  pub from : start_of p k ≤ c
  pub to : c ≤ end_of p k
  pub before : (q : ℕ) → start_of p k ≤ q → q < c → slice_index p.indices q < j
  pub behind : (q : ℕ) → c ≤ q → q < end_of p k → j ≤ slice_index p.indices q

-- each column has its cursor
abbrev pub AreCursors : Raw → ℕ → List ℕ → Type 0
AreCursors p j cursors = (k : ℕ) → k < p.major_dim → IsCursor p j k (slice_index cursors k)

-- the pattern is lower triangular: no entry is above the diagonal
abbrev pub IsLowerPattern : Raw → Type 0
IsLowerPattern p = (k i : ℕ) → IsEntry p k i → k ≤ i

-- `row` lists the columns that have row j, increasing
pub record IsRowOf (p : Raw) (j : ℕ) (row : List ℕ) : Type 0 where
  pub rising : (q r : ℕ) → q < r → r < length row → slice_index row q < slice_index row r
  pub stored : (q : ℕ) → q < length row → IsEntry p (slice_index row q) j
  pub all : (k : ℕ) → IsEntry p k j → (q : ℕ) × (q < length row) × (slice_index row q ≡ k)

module _ (R : CommRing) {T : Type 0} (f : T → R.Carrier) (z : T) where
  -- e has the inverse of each entry of d
  pub record AreInverses (d e : List T) : Type 0 where
    pub count : length e ≡ length d
    pub inverts : (j : ℕ) → j < length d → R.mul (elements R f z d j) (elements R f z e j) ≡ R.one

  -- column j is gathered from the scratch column x, times e; y is the scratch column after that
  pub record IsColumnGathered (p : Raw) (j : ℕ) (e : R.Carrier) (old new x y : List T) : Type 0 where
    pub count : length new ≡ length old
    pub same : length y ≡ length x
    pub gathered : (q : ℕ) → IsInLane p j q
        → f (slice_index_or new q z)
        ≡ R.mul (f (slice_index_or x (slice_index p.indices q) z)) e
    pub others : (q : ℕ) → (IsInLane p j q → ⊥)
        → slice_index_or new q z ≡ slice_index_or old q z
    pub cleared : (q : ℕ) → IsInLane p j q
        → slice_index_or y (slice_index p.indices q) z ≡ z
    pub kept : (i : ℕ) → (IsEntry p j i → ⊥) → slice_index_or y i z ≡ slice_index_or x i z

-- the pattern of L: square, lower triangular, and closed under fill
pub record IsFilledPattern (p : Raw) : Type 0 where
  pub square : p.minor_dim ≡ p.major_dim
  pub lower : IsLowerPattern p
  pub closed : (i j k : ℕ) → IsEntry p k i → IsEntry p k j → k < j → j ≤ i → IsEntry p j i

-- p has the shape of q, and each entry of q
pub record IsIncluded (q p : Raw) : Type 0 where
  pub rows : q.minor_dim ≡ p.minor_dim
  pub columns : q.major_dim ≡ p.major_dim
  pub entries : (i j : ℕ) → IsEntry q j i → IsEntry p j i

module _ (R : CommRing) {T : Type 0} (f : T → R.Carrier) (z : T) where
  -- entry i of y is that of x times that of `factors`
  abbrev pub IsScaled : List T → List T → List T → Type 0
  IsScaled factors x y = (i : ℕ) → i < length x
      → elements R f z y i ≡ R.mul (elements R f z x i) (elements R f z factors i)

  -- in the first n columns row i is multiplied by entry i of `factors`, and the other columns are
  -- the same
  pub record AreScaledBelow (n : ℕ) (factors : List T) (old new : Dense T) : Type 0 where
    pub rows : new.nrows ≡ old.nrows
    pub cols : new.ncols ≡ old.ncols
    pub scaled : (i j : ℕ) → i < old.nrows → j < n → f (value_at new i j z)
        ≡ R.mul (f (value_at old i j z)) (elements R f z factors i)
    pub behind : (i j : ℕ) → i < old.nrows → n ≤ j → value_at new i j z ≡ value_at old i j z
