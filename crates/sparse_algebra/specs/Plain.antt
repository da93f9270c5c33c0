-- Plain matrices over a commutative ring, and their algebra.
use Rattle.std.specs.Prelude.{◌≡◌, ℕ, zero, suc, ◌<◌, Bool, true, false, nat_eq, nat_lt, ◌&&◌, ◌||◌}
use Rattle.std.specs.Prelude.{if◌then◌else◌, List, [], ◌∷◌, ◌++◌}
use Rattle.std.specs.List.{list_any, flat_map}
use Rattle.sparse_algebra.specs.Algebra.{CommRing}
use Rattle.sparse_algebra.specs.Sums.{sum_by, sum_below, where_true}

-- a plain matrix: its shape, the test whether a pair (row, column) is a place, that is, in the structure
-- of the matrix, and the value at each pair
pub record Plain (R : CommRing) : Type 0 where
  pub rows : ℕ
  pub cols : ℕ
  pub has : ℕ → ℕ → Bool
  pub value : ℕ → ℕ → R.Carrier

-- whether some k below n passes the test
abbrev pub any_below : ℕ → (ℕ → Bool) → Bool
any_below zero test = false
any_below (suc n) test = any_below n test || test n

-- whether the triplet is at (i, j)
abbrev pub is_at : {T : Type 0} → ℕ → ℕ → ℕ × ℕ × T → Bool
is_at i j t = nat_eq t.0 i && nat_eq t.1 j

module _ (R : CommRing) where
  -- the plain matrix of a list of triplets: its places are the pairs that occur, and its value at a
  -- pair is the sum over the triplets there
  abbrev pub plain_of_triplets : {T : Type 0} → (T → R.Carrier) → ℕ → ℕ → List (ℕ × ℕ × T) → Plain R
  plain_of_triplets f rows cols ts = record {
    rows = rows;
    cols = cols;
    has = λ i j. list_any (is_at i j) ts;
    value = λ i j. sum_by R (λ t. where_true R (is_at i j t) (f t.2)) ts;
  }

  -- the union of the places, and the sums of the values
  abbrev pub plain_sum : Plain R → Plain R → Plain R
  plain_sum a b = record {
    rows = a.rows;
    cols = a.cols;
    has = λ i j. a.has i j || b.has i j;
    value = λ i j. R.add (a.value i j) (b.value i j);
  }

  -- the same places, and the negated values
  abbrev pub plain_negation : Plain R → Plain R
  plain_negation a = record {
    rows = a.rows;
    cols = a.cols;
    has = a.has;
    value =
        λ i j. R.neg (a.value i j);
  }

  abbrev pub plain_difference : Plain R → Plain R → Plain R
  plain_difference a b = plain_sum a (plain_negation b)

  abbrev pub plain_scaled : R.Carrier → Plain R → Plain R
  plain_scaled s a = record {
    rows = a.rows;
    cols = a.cols;
    has = a.has;
    value =
        λ i j. R.mul s (a.value i j);
  }

  -- (i, j) is a place if, for some k, (i, k) is a place of a and (k, j) a place of b; the value is the
  -- sum over all k below the inner dimension
  abbrev pub plain_product : Plain R → Plain R → Plain R
  plain_product a b = record {
    rows = a.rows;
    cols = b.cols;
    has = λ i j. any_below a.cols (λ k. a.has i k && b.has k j);
    value = λ i j. sum_below R a.cols (λ k. R.mul (a.value i k) (b.value k j));
  }

  abbrev pub plain_transpose : Plain R → Plain R
  plain_transpose a = record {
    rows = a.cols;
    cols = a.rows;
    has = λ i j. a.has j i;
    value =
        λ i j. a.value j i;
  }

  abbrev pub plain_identity : ℕ → Plain R
  plain_identity n = record {
    rows = n;
    cols = n;
    has = λ i j. nat_eq i j && nat_lt i n;
    value = λ i j. where_true R (nat_eq i j && nat_lt i n) R.one;
  }

  -- the places that pass the test, with their values
  abbrev pub plain_kept : (ℕ → ℕ → Bool) → Plain R → Plain R
  plain_kept test a = record {
    rows = a.rows;
    cols = a.cols;
    has = λ i j. a.has i j && test i j;
    value = λ i j. where_true R (a.has i j && test i j) (a.value i j);
  }

-- the value is zero at each pair that is not a place
abbrev pub IsProper : {R : CommRing} → Plain R → Type 0
IsProper {R} a = (i j : ℕ) → a.has i j ≡ false → a.value i j ≡ R.zero

-- each place lies within the shape
abbrev pub IsWithin : {R : CommRing} → Plain R → Type 0
IsWithin {R} a = (i j : ℕ) → a.has i j ≡ true → (i < a.rows) × (j < a.cols)

-- the numbers below n, increasing
abbrev pub below : ℕ → List ℕ
below zero = []
below (suc n) = below n ++ n ∷ []

-- the places of a plain matrix with their values, row by row, columns increasing
abbrev pub row_order : (R : CommRing) → Plain R → List (ℕ × ℕ × R.Carrier)
row_order R a = flat_map (λ i. flat_map (λ j. if a.has i j then (i, j, a.value i j) ∷ [] else [])
    (below a.cols)) (below a.rows)
