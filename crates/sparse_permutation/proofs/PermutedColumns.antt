-- Dense matrices whose rows are permuted column by column.
use Rattle.std.proofs.Common.{◌≡◌, ◌≢◌, ℕ, ◌+◌, ◌*◌, ◌<◌, ◌≤◌, ◌⊎◌, inl, inr, true, false}
use Rattle.std.proofs.Common.{◌&&◌, ◌==◌, if◌then◌else◌, List, length, get_or, ap, sym, ◌∙◌, refl}
use Rattle.std.proofs.Common.{arith}
use Rattle.std.specs.Prelude.{nat_lt}
use Rattle.std.proofs.lemmas.Bool.Decides.{Decides-ltb, eqb_tells}
use Rattle.std.proofs.lemmas.List.{get_or_default}
use Rattle.std.proofs.lemmas.Nat.{mul-add-lt}
use Rattle.sparse_algebra.proofs.Cases.{true_or_false}
use Rattle.sparse_algebra.proofs.PlainLemmas.{same_bool}
use Rattle.sparse_coo_dense.specs.Dense.{Dense, value_at, HasValues}
use Rattle.sparse_permutation.specs.PermutedPatterns.{HasPermutedRows}

-- ---- tests of a bound

lt_yes : (k n : ℕ) → k < n → nat_lt k n ≡ true
lt_yes k n less = (Decides-ltb k n).1 less

lt_zero : (k : ℕ) → nat_lt k 0 ≡ false
lt_zero k = elim (true_or_false (nat_lt k 0)) [
  | inl h ↦ absurd (omega (arith, (Decides-ltb k 0).0 h))
  | inr miss ↦ miss
]

lt_more : (k n : ℕ) → k ≢ n → nat_lt k (n + 1) ≡ nat_lt k n
lt_more k n other = same_bool _ _
    (λ h. let less : k < n + 1 = (Decides-ltb k (n + 1)).0 h in lt_yes k n (omega arith))
    (λ h. let less : k < n = (Decides-ltb k n).0 h in lt_yes k (n + 1) (omega arith))

module _ {T : Type 0} (a : Dense T) where
  -- a value that is read does not depend on the default
  pub value_stored : (i j : ℕ) (w z : T) → length a.values ≡ a.nrows * a.ncols → i < a.nrows
      → j < a.ncols → w ≡ value_at a i j w → w ≡ value_at a i j z
  value_stored i j w z full row col is = is ∙ get_or_default a.values (j * a.nrows + i) w z
      (rw full (mul-add-lt j a.nrows i a.ncols col row))

  module _ (order : List ℕ) where
    -- ---- one column, row by row

    module _ (j : ℕ) (old : Dense T) where
      -- the values after the rows below i of column j were written
      abbrev written : ℕ → ℕ → ℕ → T → T
      written i k m z = if m == j && nat_lt k i then value_at a (get_or order k 0) m z
          else value_at old k m z

      pub none_written : old.nrows ≡ a.nrows → old.ncols ≡ a.ncols
          → length old.values ≡ a.nrows * a.ncols → HasValues a.nrows a.ncols (written 0) old
      none_written rows cols full = record {
        rows = rows;
        cols = cols;
        count = full;
        values = λ k m z row col. elim (eqb_tells m j) [
          | inl e ↦ rw (e.0, lt_zero k) refl
          | inr e ↦ rw e.0 refl
        ];
      }

      pub one_written : (now next : Dense T) (i : ℕ) (w : T)
          → HasValues a.nrows a.ncols (written i) now
          → ((z : T) → w ≡ value_at a (get_or order i 0) j z)
          → HasValues now.nrows now.ncols
          (λ k m z. if k == i && m == j then w else value_at now k m z) next
          → HasValues a.nrows a.ncols (written (i + 1)) next
      one_written now next i w before is set = record {
        rows = set.rows ∙ before.rows;
        cols = set.cols ∙ before.cols;
        count = set.count ∙ ap (λ n. n * now.ncols) before.rows ∙ ap (λ n. a.nrows * n) before.cols;
        values = λ k m z row col. set.values k m z (omega (arith, before.rows))
            (omega (arith, before.cols)) ∙ by_tests k m z row col (eqb_tells k i) (eqb_tells m j);
      }
        where
          by_tests : (k m : ℕ) (z : T) → k < a.nrows → m < a.ncols
              → ((k == i ≡ true) × (k ≡ i)) ⊎ ((k == i ≡ false) × (k ≢ i))
              → ((m == j ≡ true) × (m ≡ j)) ⊎ ((m == j ≡ false) × (m ≢ j))
              → (if k == i && m == j then w else value_at now k m z) ≡ written (i + 1) k m z
          by_tests k m z row col (inl e) (inl h) =
              let less : nat_lt k (i + 1) ≡ true = lt_yes k (i + 1) (omega (arith, e.1)) in
              rw (e.0, h.0, less) (is z
              ∙ ap (λ x. value_at a (get_or order x 0) j z) (sym e.1)
              ∙ ap (λ x. value_at a (get_or order k 0) x z) (sym h.1))
          by_tests k m z row col (inl e) (inr h) =
              rw (e.0, h.0) (before.values k m z row col ∙ rw h.0 refl)
          by_tests k m z row col (inr e) (inl h) =
              rw (e.0, h.0, lt_more k i e.1) (before.values k m z row col ∙ rw h.0 refl)
          by_tests k m z row col (inr e) (inr h) =
              rw (e.0, h.0) (before.values k m z row col ∙ rw h.0 refl)

    -- ---- column by column

    -- the values after the columns below j were written
    abbrev permuted_below : ℕ → ℕ → ℕ → T → T
    permuted_below j k m z = if nat_lt m j then value_at a (get_or order k 0) m z
        else value_at a k m z

    pub no_column : length a.values ≡ a.nrows * a.ncols
        → HasValues a.nrows a.ncols (permuted_below 0) a
    no_column full = record {
      rows = refl;
      cols = refl;
      count = full;
      values = λ k m z row col. rw (lt_zero m) refl;
    }

    pub column_more : (now next : Dense T) (j : ℕ)
        → HasValues a.nrows a.ncols (permuted_below j) now
        → HasValues a.nrows a.ncols
        (λ k m z. if m == j then value_at a (get_or order k 0) m z else value_at now k m z) next
        → HasValues a.nrows a.ncols (permuted_below (j + 1)) next
    column_more now next j before column = record {
      rows = column.rows;
      cols = column.cols;
      count = column.count;
      values = λ k m z row col. column.values k m z row col ∙ elim (eqb_tells m j) [
        | inl e ↦ rw (e.0, lt_yes m (j + 1) (omega (arith, e.1))) refl
        | inr e ↦ rw (e.0, lt_more m j e.1) (before.values k m z row col)
      ];
    }

    pub all_columns : (now : Dense T) (j : ℕ) → a.ncols ≤ j
        → HasValues a.nrows a.ncols (permuted_below j) now → HasPermutedRows order a now
    all_columns now j whole before = record {
      rows = before.rows;
      cols = before.cols;
      count = before.count;
      values = λ k m z row col. before.values k m z row col
          ∙ rw (lt_yes m j (omega arith)) refl;
    }

    pub no_rows : length a.values ≡ a.nrows * a.ncols → a.nrows ≡ 0 → HasPermutedRows order a a
    no_rows full none = record {
      rows = refl;
      cols = refl;
      count = full;
      values = λ k m z row col. absurd (omega arith);
    }
