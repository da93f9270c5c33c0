-- The triplets of a block, and the block in a matrix of zeros.
use Rattle.std.proofs.Common.{◌≡◌, ℕ, ◌+◌, ◌*◌, ◌-◌, ◌<◌, ◌≤◌, inl, inr, Bool, true, false, ◌&&◌}
use Rattle.std.proofs.Common.{List, [], ◌∷◌, length, get_or, map, ap, sym, ◌∙◌, refl, arith}
use Rattle.std.proofs.Math.Bool.{or_assoc, or-false}
use Rattle.std.specs.Prelude.{◌||◌, nat_le}
use Rattle.std.specs.List.{list_any}
use Rattle.std.proofs.lemmas.Bool.{cases_Bool}
use Rattle.std.proofs.lemmas.Bool.Decides.{nat_tests}
use Rattle.std.proofs.Math.ListN.{get_or-map}
use Rattle.nalgebra_sparse.specs.Algebra.{CommRing}
use Rattle.nalgebra_sparse.specs.Blocks.{block_triplets}
use Rattle.nalgebra_sparse.specs.Dense.{Dense, value_at, dense_of}
use Rattle.nalgebra_sparse.specs.DensePlain.{is_inside, plain_of_dense}
use Rattle.nalgebra_sparse.specs.Plain.{is_at, plain_of_triplets}
use Rattle.nalgebra_sparse.specs.RingLemmas.{zero_add}
use Rattle.nalgebra_sparse.specs.Sums.{sum_by, where_true}
use Rattle.examples_theorems.specs.declared.parts.Block.{Block}
use Rattle.examples_theorems.specs.Assembly.{placed_block}
use Rattle.examples_theorems.proofs.FoldedBlocks.{fold_by, fold_block-within, fold_block-outside}

-- ---- tests

is_at_own : {T : Type 0} (i j : ℕ) (v : T) → is_at i j (i, j, v) ≡ true
is_at_own i j v = grind (arith, nat_tests)

-- whether (i, j) lies in a block that begins at (r, c)
abbrev covers : {T : Type 0} → ℕ → ℕ → Dense T → ℕ → ℕ → Bool
covers r c d i j = (nat_le r i && nat_le c j) && is_inside d (i - r) (j - c)

pub record IsCovered (i j r c rows cols : ℕ) : Type 0 where
  pub row : r ≤ i
  pub col : c ≤ j
  pub row_end : i - r < rows
  pub col_end : j - c < cols

covered : {T : Type 0} (r c : ℕ) (d : Dense T) (i j : ℕ) → covers r c d i j ≡ true
    → IsCovered i j r c d.nrows d.ncols
covered r c d i j hit = record {
  row = grind (arith, nat_tests);
  col = grind (arith, nat_tests);
  row_end = grind (arith, nat_tests);
  col_end = grind (arith, nat_tests);
}

not_covered : {T : Type 0} (r c : ℕ) (d : Dense T) (i j : ℕ) → covers r c d i j ≡ false
    → (k l : ℕ) → l < d.nrows → k < d.ncols → r + l ≡ i → c + k ≡ j → ⊥
not_covered r c d i j miss k l row col at_row at_col = grind (arith, nat_tests)

-- ---- the pairs (i, j) of a block

any_is_fold : {X : Type 0} (t : X → Bool) (xs : List X)
    → list_any t xs ≡ fold_by false (λ a b. a || b) t xs
any_is_fold t [] = refl
any_is_fold t (x ∷ xs) = ap (λ b. t x || b) (any_is_fold t xs)

module _ {T : Type 0} (r c : ℕ) (d : Dense T) (z : T)
    (full : length d.values ≡ d.nrows * d.ncols) where
  -- the pairs (i, j) of a block's triplets are those that the block covers
  block-has : (i j : ℕ) → list_any (is_at i j) (block_triplets r c d) ≡ covers r c d i j
  block-has i j = any_is_fold (is_at i j) (block_triplets r c d)
      ∙ elim (cases_Bool (covers r c d i j)) [
        | inl hit ↦
            let at = covered r c d i j hit in
            fold_block-within false (λ a b. a || b) (λ _. refl) or-false or_assoc i j (is_at i j)
            (λ _. true) (is_at_own i j) (λ _ miss. miss) r c d z (j - c) (i - r) full at.row_end
            at.col_end (omega (arith, at.row)) (omega (arith, at.col)) ∙ sym hit
        | inr miss ↦
            fold_block-outside false (λ a b. a || b) (λ _. refl) or-false or_assoc i j (is_at i j)
            (λ _. true) (is_at_own i j) (λ _ miss. miss) r c d (not_covered r c d i j miss) ∙ sym miss
      ]

module _ (R : CommRing) where
  sum_is_fold : {X : Type 0} (g : X → R.Carrier) (xs : List X)
      → sum_by R g xs ≡ fold_by R.zero R.add g xs
  sum_is_fold g [] = refl
  sum_is_fold g (x ∷ xs) = ap (R.add (g x)) (sum_is_fold g xs)

  where_both : (a b : Bool) (x : R.Carrier)
      → where_true R a (where_true R b x) ≡ where_true R (a && b) x
  where_both true b x = refl
  where_both false b x = refl

  module _ {T : Type 0} (f : T → R.Carrier) (z : T) (zero_law : f z ≡ R.zero) (r c : ℕ)
      (d : Dense T) (full : length d.values ≡ d.nrows * d.ncols) where
    -- the sum of a block's triplets at a pair is its value there
    block-value : (i j : ℕ)
        → sum_by R (λ t. where_true R (is_at i j t) (f t.2)) (block_triplets r c d)
        ≡ where_true R (nat_le r i && nat_le c j) ((plain_of_dense R f d).value (i - r) (j - c))
    block-value i j =
        let u : ℕ × ℕ × T → R.Carrier = λ t. where_true R (is_at i j t) (f t.2) in
        let on : (v : T) → u (i, j, v) ≡ f v =
        λ v. ap (λ b. where_true R b (f v)) (is_at_own i j v) in
        let off : (t : ℕ × ℕ × T) → is_at i j t ≡ false → u t ≡ R.zero =
        λ t miss. ap (λ b. where_true R b (f t.2)) miss in
        let x = value_at (dense_of d.nrows d.ncols (map f d.values)) (i - r) (j - c) R.zero in
        let inside = is_inside d (i - r) (j - c) in
        sum_is_fold u (block_triplets r c d) ∙ elim (cases_Bool (covers r c d i j)) [
          | inl hit ↦
              let at = covered r c d i j hit in
              fold_block-within R.zero R.add (zero_add R) R.laws.add_zero R.laws.add_assoc i j u f
              on off r c d z (j - c) (i - r) full at.row_end at.col_end (omega (arith, at.row))
              (omega (arith, at.col))
              ∙ sym (get_or-map f d.values ((j - c) * d.nrows + (i - r)) z)
              ∙ ap (get_or (map f d.values) ((j - c) * d.nrows + (i - r))) zero_law
              ∙ sym (ap (λ b. where_true R b x) hit)
          | inr miss ↦
              fold_block-outside R.zero R.add (zero_add R) R.laws.add_zero R.laws.add_assoc i j u f
              on off r c d (not_covered r c d i j miss) ∙ sym (ap (λ b. where_true R b x) miss)
        ] ∙ sym (where_both (nat_le r i && nat_le c j) inside x)

module _ (R : CommRing) {T : Type 0} (f : T → R.Carrier) (z : T) (zero_law : f z ≡ R.zero)
    (nrows ncols : ℕ) where
  -- the plain matrix of a block's triplets is that of the block in a matrix of zeros
  pub block-placed : (b : Block T) → length b.matrix.values ≡ b.matrix.nrows * b.matrix.ncols
      → plain_of_triplets R f nrows ncols (block_triplets b.row b.col b.matrix)
      ≡ placed_block R f nrows ncols b
  block-placed b full = λ k. record {
    rows = nrows;
    cols = ncols;
    has = λ i j. block-has b.row b.col b.matrix z full i j k;
    value = λ i j. block-value R f z zero_law b.row b.col b.matrix full i j k;
  }
