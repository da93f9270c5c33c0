-- How a write to an element changes the plain matrix of a dense matrix.
use Rattle.std.proofs.Common.{◌≡◌, ◌≢◌, ℕ, ◌+◌, ◌*◌, ◌<◌, Bool, true, false, List, length, set}
use Rattle.std.proofs.Common.{get_or}
use Rattle.std.proofs.Common.{get_or-set_same, get_or-set_other, ap, sym, ◌∙◌, refl, arith}
use Rattle.std.specs.Prelude.{nat_lt, map}
use Rattle.std.proofs.Math.ListN.{get_or-map}
use Rattle.std.proofs.lemmas.Bool.Decides.{nat_tests}
use Rattle.std.proofs.lemmas.Nat.{mul-add-lt}
use Rattle.sparse_algebra.proofs.Cases.{and_parts}
use Rattle.sparse_algebra.specs.Algebra.{CommRing}
use Rattle.sparse_algebra.specs.Sums.{where_true}
use Rattle.sparse_coo_dense.specs.Dense.{Dense, HasValues, with_value_at}
use Rattle.sparse_coo_dense.specs.DensePlain.{is_inside, plain_of_dense}
use Rattle.sparse_coo_dense.proofs.DenseLemmas.{offset_row, offset_col}
use Rattle.sparse_dense_ops.proofs.PlainSolutions.{dense_inside}

module _ (R : CommRing) {T : Type 0} (f : T → R.Carrier) (z : T) (zero : f z ≡ R.zero) where
  where_same : (b : Bool) (x y : R.Carrier) → (b ≡ true → x ≡ y)
      → where_true R b x ≡ where_true R b y
  where_same true x y h = h refl
  where_same false x y h = refl

  meaning : (xs : List T) (p : ℕ) → get_or (map f xs) p R.zero ≡ f (get_or xs p z)
  meaning xs p = ap (get_or (map f xs) p) (sym zero) ∙ get_or-map f xs p z

  -- the entry that is written
  pub written : (d : Dense T) (i j : ℕ) (w : T) → length d.values ≡ d.nrows * d.ncols
      → i < d.nrows → j < d.ncols
      → (plain_of_dense R f (with_value_at d i j w)).value i j ≡ f w
  written d i j w full row col = dense_inside R f z zero (with_value_at d i j w) i j row col
      ∙ ap f (get_or-set_same d.values (j * d.nrows + i) w z within)
    where
      within : j * d.nrows + i < length d.values
      within = rw full (mul-add-lt j d.nrows i d.ncols col row)

  -- the others
  pub unwritten : (d : Dense T) (i j k l : ℕ) (w : T) → i < d.nrows → (k ≡ i → l ≡ j → ⊥)
      → (plain_of_dense R f (with_value_at d i j w)).value k l ≡ (plain_of_dense R f d).value k l
  unwritten d i j k l w row ne = where_same (is_inside d k l) _ _ (λ hit.
      let inside : k < d.nrows =
      let test = (and_parts (nat_lt k d.nrows) (nat_lt l d.ncols) hit).0 in
      grind (arith, nat_tests) in
      let other : l * d.nrows + k ≢ j * d.nrows + i = λ same. ne
      (offset_row d.nrows i j k l row inside same)
      (offset_col d.nrows i j k l row inside same) in
      meaning (set d.values (j * d.nrows + i) w) (l * d.nrows + k)
      ∙ ap f (get_or-set_other d.values (j * d.nrows + i) (l * d.nrows + k) w z other)
      ∙ sym (meaning d.values (l * d.nrows + k)))

  -- a matrix of zeros
  pub zeros : (d : Dense T) (n m i j : ℕ) → HasValues n m (λ _ _ _. z) d
      → (plain_of_dense R f d).value i j ≡ R.zero
  zeros d n m i j h = where_same (is_inside d i j) _ R.zero (λ hit.
      let parts = and_parts (nat_lt i d.nrows) (nat_lt j d.ncols) hit in
      let row : i < n = let test = parts.0 in let size = h.rows in grind (arith, nat_tests) in
      let col : j < m = let test = parts.1 in let size = h.cols in grind (arith, nat_tests) in
      meaning d.values (j * d.nrows + i) ∙ ap f (h.values i j z row col) ∙ zero)
      ∙ where_zero (is_inside d i j)
    where
      where_zero : (b : Bool) → where_true R b R.zero ≡ R.zero
      where_zero true = refl
      where_zero false = refl
