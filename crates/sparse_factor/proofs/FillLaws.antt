-- Laws of the fill of a base: it is the smallest closed set, and a column comes from its children.
use Rattle.std.proofs.Common.{ℕ, zero, suc, ◌+◌, ◌<◌, ◌≤◌, ◌⊎◌, ◌↔◌, inl, inr, Bool, IsTrue, subst}
use Rattle.std.proofs.Common.{arith}
use Rattle.std.proofs.Math.Nat.{eq-or-lt_of_le}
use Rattle.sparse_factor.specs.Fill.{InFill}
use Rattle.sparse_factor.specs.Fill.{Filled, given, fill}

-- Filled is a subset of each closed set that contains the base
pub in_fill : {base : ℕ → ℕ → Type 0} {i j : ℕ} → Filled base i j → InFill base i j
in_fill (given {i} {j} b) = λ set closed holds. holds i j b
in_fill (fill {i} {j} {k} p q lt le) =
    λ set closed holds. closed i j k (in_fill p set closed holds) (in_fill q set closed holds) lt le

-- a pair in every such closed set is Filled, if a test decides Filled
pub filled_in : (base : ℕ → ℕ → Type 0) (set : ℕ → ℕ → Bool) →
    ((i j : ℕ) → IsTrue (set i j) ↔ Filled base i j) → (i j : ℕ) → InFill base i j → Filled base i j
filled_in base set tied i j h =
    (tied i j).0 (h set
    (λ i j k p q lt le. (tied i j).1 (fill ((tied i k).0 p) ((tied j k).0 q) lt le))
    (λ i j b. (tied i j).1 (given b)))

-- a row that has a pair in the fill has one in the base
pub row_base : {base : ℕ → ℕ → Type 0} {i j : ℕ} → Filled base i j → (r : ℕ) × base i r
row_base (given {i} {j} b) = (j, b)
row_base (fill p q lt le) = row_base p

-- the fill of a subset of a base is a subset of its fill
pub filled_into : {a b : ℕ → ℕ → Type 0} → ((i j : ℕ) → a i j → b i j) → {i j : ℕ} → Filled a i j
    → Filled b i j
filled_into into (given {i} {j} x) = given (into i j x)
filled_into into (fill p q lt le) = fill (filled_into into p) (filled_into into q) lt le

pub in_fill_into : {a b : ℕ → ℕ → Type 0} → ((i j : ℕ) → a i j → b i j) → (i j : ℕ) → InFill a i j
    → InFill b i j
in_fill_into into i j h set closed holds = h set closed (λ i j x. holds i j (into i j x))

module _ (base : ℕ → ℕ → Type 0) (low : (i j : ℕ) → base i j → j ≤ i) where
  pub low_filled : {i j : ℕ} → Filled base i j → j ≤ i
  low_filled (given {i} {j} b) = low i j b
  low_filled (fill p q lt le) = le

  pub diagonal : (j r : ℕ) → base j r → Filled base j j
  diagonal j r b = elim (eq-or-lt_of_le (low j r b)) [
    | inl e ↦ given (subst (λ x. base j x) e b)
    | inr l ↦ let f : Filled base j r = given b in fill f f l (omega arith)
  ]

  pub filled_diagonal : (j : ℕ) → Filled base j j ↔ ((r : ℕ) × base j r)
  filled_diagonal j = (row_base, λ b. diagonal j b.0 b.1)

-- p is the parent of column k: its least row below the diagonal
pub record IsParent (base : ℕ → ℕ → Type 0) (k p : ℕ) : Type 0 where
  pub above : k < p
  pub filled : Filled base p k
  pub least : (q : ℕ) → k < q → Filled base q k → p ≤ q

-- each column before j that has a row below its diagonal has a parent
abbrev pub HaveParents : (ℕ → ℕ → Type 0) → ℕ → Type 0
HaveParents base j = (k q : ℕ) → k < j → k < q → Filled base q k → (p : ℕ) × IsParent base k p

module _ (base : ℕ → ℕ → Type 0) where
  -- if rows j and i ≥ j are in a column before j, row i is in a child of j
  in_child : (n i j k : ℕ) → HaveParents base j → j ≤ k + n → k < j → j ≤ i → Filled base i k
      → Filled base j k → (c : ℕ) × (c < j) × IsParent base c j × Filled base i c
  in_child zero i j k parents near lt le f g = absurd (omega arith)
  in_child (suc n) i j k parents near lt le f g =
      let (p, is) = parents k j lt lt g in
      elim (eq-or-lt_of_le (is.least j lt g)) [
        | inl e ↦ (k, lt, subst (IsParent base k) e is, f)
        | inr l ↦ in_child n i j p parents (omega (arith, is.above)) l le
            (fill f is.filled is.above (omega arith)) (fill g is.filled is.above (omega arith))
      ]

  -- a row of column j is in its base or in the column of a child of j
  pub column_fill : {i j : ℕ} → Filled base i j → HaveParents base j
      → base i j ⊎ ((c : ℕ) × (c < j) × IsParent base c j × Filled base i c)
  column_fill (given b) parents = inl b
  column_fill (fill {i} {j} {k} f g lt le) parents =
      inr (in_child j i j k parents (omega arith) lt le f g)

  pub child_filled : (i j c : ℕ) → IsParent base c j → Filled base i c → c < i → Filled base i j
  child_filled i j c is f lt = fill f is.filled is.above (is.least i lt f)
