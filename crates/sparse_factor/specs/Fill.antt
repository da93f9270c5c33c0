-- The fill of a symmetric elimination: the smallest closed set that contains a base.
use Rattle.std.specs.Prelude.{◌≡◌, ℕ, ◌<◌, ◌≤◌, ◌↔◌, ◌⊎◌, Bool, true, IsTrue, List}
use Rattle.std.specs.List.{Contains}
use Rattle.sparse_algebra.specs.Algebra.{CommRing}
use Rattle.sparse_algebra.specs.Plain.{Plain}
use Rattle.sparse_pattern.specs.Raw.{Raw, IsEntry}
use Rattle.sparse_factor.specs.declared.factorization.Triangle.{Triangle}
use Rattle.sparse_factor.specs.declared.factorization.Triangle.TheVariants.{Upper, Lower, Both}

-- if the set contains (i, k) and (j, k) with k < j ≤ i, then it contains (i, j): eliminating column
-- k adds column j to row i
abbrev pub IsFillClosed : (ℕ → ℕ → Bool) → Type 0
IsFillClosed set = (i j k : ℕ) → IsTrue (set i k) → IsTrue (set j k) → k < j → j ≤ i
    → IsTrue (set i j)

abbrev pub HoldsBase : (ℕ → ℕ → Type 0) → (ℕ → ℕ → Bool) → Type 0
HoldsBase base set = (i j : ℕ) → base i j → IsTrue (set i j)

-- (i, j) is in every set, given by a test, that is closed under fill and contains the base
abbrev pub InFill : (ℕ → ℕ → Type 0) → ℕ → ℕ → Type 0
InFill base i j = (set : ℕ → ℕ → Bool) → IsFillClosed set → HoldsBase base set → IsTrue (set i j)

-- the least of all sets of pairs that contain the base and are closed under fill
pub data Filled (base : ℕ → ℕ → Type 0) : ℕ → ℕ → Type 0 where
  given : {i j : ℕ} → base i j → Filled base i j
  fill : {i j k : ℕ} → Filled base i k → Filled base j k → k < j → j ≤ i → Filled base i j

-- the base of a pattern stored by columns: (c, r) for each stored row r ≤ c of column c, which is
-- the upper triangle transposed
abbrev pub UpperBase : Raw → ℕ → ℕ → Type 0
UpperBase p c r = IsEntry p c r × (r ≤ c)

-- the base of the lower triangle: (r, c) for each stored row r ≥ c of column c
abbrev pub LowerBase : Raw → ℕ → ℕ → Type 0
LowerBase p r c = IsEntry p c r × (c ≤ r)

-- the base of a plain matrix: (c, r) for each place (r, c) on or above the diagonal, as that of a pattern stored by
-- columns
abbrev pub PlainBase : {R : CommRing} → Plain R → ℕ → ℕ → Type 0
PlainBase a c r = (a.has r c ≡ true) × (r ≤ c)

-- the base of each triangle; that of both triangles is the union
abbrev pub TriangleBase : Triangle → Raw → ℕ → ℕ → Type 0
TriangleBase Upper p i j = UpperBase p i j
TriangleBase Lower p i j = LowerBase p i j
TriangleBase Both p i j = UpperBase p i j ⊎ LowerBase p i j

-- the entries of the pattern, read by columns, are exactly the pairs (row, column) of the set
abbrev pub StoresByColumns : (ℕ → ℕ → Type 0) → Raw → Type 0
StoresByColumns set p = (i j : ℕ) → IsEntry p j i ↔ set i j

-- the list contains every pair (row, column) of the fill
abbrev pub ListsFill : (ℕ → ℕ → Type 0) → List (ℕ × ℕ) → Type 0
ListsFill base pairs = (i j : ℕ) → InFill base i j → Contains pairs (i, j)
