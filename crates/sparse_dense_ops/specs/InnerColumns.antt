-- A column of a lower triangle, and a column of a solution.
use Rattle.std.specs.Prelude.{◌≡◌, ◌≢◌, ℕ, ◌<◌, ◌≤◌, true, List, All, length}
use Rattle.sparse_algebra.specs.Algebra.{CommRing}
use Rattle.sparse_algebra.specs.Sums.{sum_below}
use Rattle.sparse_algebra.specs.Plain.{Plain}
use Rattle.sparse_coo_dense.specs.Dense.{Dense, value_at}
use Rattle.sparse_compressed.specs.Compressed.{Compressed}
use Rattle.sparse_compressed.specs.PlainOfLanes.{plain_of_cols}
use Rattle.sparse_algebra.specs.declared.operand.Op.{Op}
use Rattle.sparse_algebra.specs.Operands.{plain_op}
use Rattle.sparse_dense_ops.specs.SparseVectors.{elements, sparse_elements}
use Rattle.sparse_dense_ops.specs.Solutions.{HasPivot, plain_lower}

module _ (R : CommRing) {T : Type 0} (f : T → R.Carrier) where
  -- rows and values are the entries of column k below the diagonal, and `inverse` is the inverse of
  -- the stored diagonal entry
  pub record IsColumnBelow (a : Plain R) (k : ℕ) (rows : List ℕ) (values : List T) (inverse : T) :
      Type 0 where
    pub count : length values ≡ length rows
    pub inside : All (λ i. i < a.rows) rows
    pub stored : a.has k k ≡ true
    pub inverts : R.mul (a.value k k) (f inverse) ≡ R.one
    pub below : (i : ℕ) → k < i → sparse_elements R f rows values i ≡ a.value i k
    pub above : (i : ℕ) → i ≤ k → sparse_elements R f rows values i ≡ R.zero

  -- each diagonal entry is stored and has an inverse
  abbrev pub HasPivots : Plain R → Type 0
  HasPivots a = (k : ℕ) → k < a.rows → HasPivot R f a k

-- x solves the n equations with these coefficients and right sides
abbrev pub SolvesColumn : (R : CommRing) → ℕ → (ℕ → ℕ → R.Carrier) → (ℕ → R.Carrier)
    → (ℕ → R.Carrier) → Type 0
SolvesColumn R n t x b = (i : ℕ) → i < n → sum_below R n (λ k. R.mul (t i k) (x k)) ≡ b i

module _ (R : CommRing) {T : Type 0} (f : T → R.Carrier) where
  -- the coefficients on and below the diagonal
  abbrev pub lower : Compressed T → ℕ → ℕ → R.Carrier
  lower m = (plain_lower R (plain_of_cols R f m)).value

  -- the coefficients on and below the diagonal of an operand, transposed if the operand is
  abbrev pub op_lower : {X : Type 0} → (X → Compressed T) → Op X → ℕ → ℕ → R.Carrier
  op_lower see l = (plain_op R (λ x. plain_lower R (plain_of_cols R f (see x))) l).value

  -- the elements of x solve the equations whose right sides are the elements of b
  abbrev pub SolvesList : T → (ℕ → ℕ → R.Carrier) → List T → List T → Type 0
  SolvesList z t x b = SolvesColumn R (length b) t (elements R f z x) (elements R f z b)

  -- the same for the elements before and after a solve, for each number of the column
  abbrev pub SolvesAt : T → (ℕ → ℕ → R.Carrier) → ℕ → List T → List T → Type 0
  SolvesAt z t _ b x = SolvesList z t x b

-- each column of x solves the equations whose right sides are that column of b
pub record SolvesColumns (R : CommRing) {T : Type 0} (f : T → R.Carrier) (z : T)
    (t : ℕ → ℕ → R.Carrier) (x b : Dense T) : Type 0 where
  pub rows : x.nrows ≡ b.nrows
  pub cols : x.ncols ≡ b.ncols
  pub solved : (j : ℕ) → j < b.ncols → SolvesColumn R b.nrows t (λ i. f (value_at x i j z))
      (λ i. f (value_at b i j z))

-- a step of forward substitution from x to y: y k is x k times e, and y k times the values is
-- subtracted in their rows
pub record IsEliminated (R : CommRing) {T : Type 0} (f : T → R.Carrier) (n k : ℕ) (rows : List ℕ)
    (values : List T) (e : R.Carrier) (x y : ℕ → R.Carrier) : Type 0 where
  pub answer : y k ≡ R.mul (x k) e
  pub others : (i : ℕ) → i < n → i ≢ k → y i ≡ R.add (x i)
      (R.mul (R.neg (y k)) (sparse_elements R f rows values i))

-- the step of row k is done in a list, with the inverse e
abbrev pub EliminatesColumn : (R : CommRing) {T : Type 0} → (T → R.Carrier) → T → ℕ → List ℕ → List T → T
    → List T → List T → Type 0
EliminatesColumn R f z k rows values e old new = IsEliminated R f (length old) k rows values (f e)
    (elements R f z old) (elements R f z new)
