-- Columns of L that are nested in the next column, and the update of the scratch column by four.
use Rattle.std.specs.Prelude.{◌≡◌, ℕ, ◌+◌, ◌-◌, ◌<◌, ◌≤◌, Bool, true, false, List, length}
use Rattle.std.specs.Prelude.{slice_index, slice_index_or, slice_range, slice_set}
use Rattle.sparse_algebra.specs.Algebra.{CommRing}
use Rattle.sparse_pattern.specs.Raw.{Raw, start_of, end_of, lane_of}
use Rattle.sparse_dense_ops.specs.SparseVectors.{elements, sparse_elements}

-- the rows behind the first are the first of `next`
pub record IsRestFirst (rows next : List ℕ) : Type 0 where
  pub fits : length rows ≤ length next + 1
  pub same : (i : ℕ) → i + 1 < length rows → slice_index next i ≡ slice_index rows (i + 1)

-- column k is nested in the next one: its rows behind the first are the first of that column
pub record IsNested (p : Raw) (k : ℕ) : Type 0 where
  pub next : k + 1 < p.major_dim
  pub rest : IsRestFirst (lane_of p k) (lane_of p (k + 1))

-- each column whose flag is set is nested in the next one
pub record AreNested (p : Raw) (nested : List Bool) : Type 0 where
  pub count : length nested ≡ p.major_dim
  pub each : (k : ℕ) → slice_index_or nested k false ≡ true → IsNested p k

-- entries q to q + 3 of `row` are columns one after the other, each of the first three with its
-- flag set, and not the last of the row
pub record AreFour (nested : List Bool) (row : List ℕ) (q : ℕ) : Type 0 where
  pub more : q + 4 < length row
  pub last : slice_index row (q + 3) ≡ slice_index row q + 3
  pub first : slice_index_or nested (slice_index row q) false ≡ true
  pub second : slice_index_or nested (slice_index row q + 1) false ≡ true
  pub third : slice_index_or nested (slice_index row q + 2) false ≡ true

-- the rows of column k from offset c on are the first of those of column l from offset d on
pub record AreFirstRows (p : Raw) (k c l d : ℕ) : Type 0 where
  pub from : start_of p l ≤ d
  pub fits : d + (end_of p k - c) ≤ end_of p l
  pub same : (i : ℕ) → c + i < end_of p k
      → slice_index p.indices (d + i) ≡ slice_index p.indices (c + i)

-- the cursor of column k is moved to the next entry
unfoldable pub moved : List ℕ → ℕ → List ℕ
moved cursors k = slice_set cursors k (slice_index cursors k + 1)

-- the cursors of the columns from k to k + 3 are moved to the next entry
abbrev pub moved_four : List ℕ → ℕ → List ℕ
moved_four cursors k = moved (moved (moved (moved cursors k) (k + 1)) (k + 2)) (k + 3)

module _ (R : CommRing) {T : Type 0} (f : T → R.Carrier) where
  -- column k from offset c on, as a vector
  abbrev pub column_from : Raw → List T → ℕ → ℕ → ℕ → R.Carrier
  column_from p values k c = sparse_elements R f (slice_range p.indices c (end_of p k))
      (slice_range values c (end_of p k))

module _ (R : CommRing) {T : Type 0} (f : T → R.Carrier) (z : T) where
  -- the negative product of pivot k, in x, and the value at offset c
  abbrev pub scale_at : List T → List T → ℕ → ℕ → R.Carrier
  scale_at values x k c = R.neg (R.mul (elements R f z x k) (elements R f z values c))

  -- each element of y is that of x plus those of four vectors, times a, b, c and d
  abbrev pub AddsFour : R.Carrier → R.Carrier → R.Carrier → R.Carrier → (ℕ → R.Carrier)
      → (ℕ → R.Carrier) → (ℕ → R.Carrier) → (ℕ → R.Carrier) → List T → List T → Type 0
  AddsFour a b c d first second third fourth x y = (i : ℕ) → i < length x
      → elements R f z y i ≡ R.add (elements R f z x i)
      (R.add (R.add (R.mul a (first i)) (R.mul b (second i)))
      (R.add (R.mul c (third i)) (R.mul d (fourth i))))

  -- element i of the update of x by column k from offset c on
  abbrev pub update_by : Raw → List T → List T → ℕ → ℕ → ℕ → R.Carrier
  update_by p values x k c i =
      R.mul (scale_at values x k c) (column_from R f p values k c i)

  -- y is x after the updates by the columns from k to k + 3, each from its cursor on
  pub record IsUpdatedByFour (p : Raw) (values : List T) (k : ℕ) (cursors : List ℕ) (x y : List T)
      : Type 0 where
    pub each : (i : ℕ) → i < length x → elements R f z y i
        ≡ R.add (R.add (R.add (R.add (elements R f z x i)
        (update_by p values x k (slice_index cursors k) i))
        (update_by p values x (k + 1) (slice_index cursors (k + 1)) i))
        (update_by p values x (k + 2) (slice_index cursors (k + 2)) i))
        (update_by p values x (k + 3) (slice_index cursors (k + 3)) i)
