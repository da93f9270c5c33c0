-- Dense matrices: the offsets of values, and the values after each operation.
use Rattle.std.proofs.Common.{◌≡◌, ℕ, ◌+◌, ◌*◌, ◌/◌, ◌%◌, ◌<◌, ◌≤◌, ◌≢◌, ◌⊎◌, inl, inr, true, false}
use Rattle.std.proofs.Common.{◌&&◌, ◌==◌, if◌then◌else◌, List, [], ◌∷◌, ◌++◌, length, get_or}
use Rattle.std.proofs.Common.{replicate, slice_range, ap, sym, ◌∙◌, refl, arith}
use Rattle.std.proofs.Math.Nat.{add-mul, mul_comm, mul-le-mul_right, eq-or-lt_of_le}
use Rattle.std.proofs.lemmas.Grind.{common_steps}
use Rattle.std.proofs.lemmas.Nat.{mul-add-lt, div-mul-add, mod-mul-add}
use Rattle.std.proofs.lemmas.Bool.Decides.{eqb_tells}
use Rattle.std.proofs.lemmas.List.{length-replicate, get_or-replicate, get_or_default}
use Rattle.std.proofs.lemmas.List.{get_or-set_same, get_or-set_other, get_or_append_left}
use Rattle.std.proofs.lemmas.List.{length-set}
use Rattle.std.proofs.Math.ListN.{length-append}
use Rattle.std.proofs.Math.Seq.{get_or-append_seam}
use Rattle.sparse_coo_dense.specs.Dense.{Dense, dense_of, value_at, with_value_at, HasValues}

-- equal offsets j * n + i have equal rows i and columns j
pub offset_row : (n i j k l : ℕ) → i < n → k < n → l * n + k ≡ j * n + i → k ≡ i
offset_row n i j k l row other e = sym (mod-mul-add l n k other) ∙ ap (λ p. p % n) e
    ∙ mod-mul-add j n i row

pub offset_col : (n i j k l : ℕ) → i < n → k < n → l * n + k ≡ j * n + i → l ≡ j
offset_col n i j k l row other e = sym (div-mul-add l n k other) ∙ ap (λ p. p / n) e
    ∙ div-mul-add j n i row

module _ {T : Type 0} where
  pub repeated_values : (n m : ℕ) (v : T) (values : List T) → values ≡ replicate (n * m) v
      → HasValues n m (λ _ _ _. v) (dense_of n m values)
  repeated_values n m v values is = record {
    rows = refl;
    cols = refl;
    count = ap length is ∙ length-replicate (n * m) v;
    values = λ i j z row col. ap (λ l. get_or l (j * n + i) z) is
        ∙ get_or-replicate (n * m) (j * n + i) v z (mul-add-lt j n i m col row);
  }

  one_set : (d : Dense T) (i j : ℕ) (w : T) (k l : ℕ) (z : T) → i < d.nrows → k < d.nrows
      → j * d.nrows + i < length d.values
      → value_at (with_value_at d i j w) k l z ≡ (if k == i && l == j then w else value_at d k l z)
  one_set d i j w k l z row other within = by_tests (eqb_tells k i) (eqb_tells l j)
    where
      stays : l * d.nrows + k ≢ j * d.nrows + i
          → value_at (with_value_at d i j w) k l z ≡ value_at d k l z
      stays apart = get_or-set_other d.values (j * d.nrows + i) (l * d.nrows + k) w z apart

      by_tests : ((k == i ≡ true) × (k ≡ i)) ⊎ ((k == i ≡ false) × (k ≢ i))
          → ((l == j ≡ true) × (l ≡ j)) ⊎ ((l == j ≡ false) × (l ≢ j))
          → value_at (with_value_at d i j w) k l z
          ≡ (if k == i && l == j then w else value_at d k l z)
      by_tests (inl e) (inl f) = rw (e.0, f.0, e.1, f.1)
          (get_or-set_same d.values (j * d.nrows + i) w z within)
      by_tests (inl e) (inr f) = rw (e.0, f.0)
          (stays (λ p. f.1 (offset_col d.nrows i j k l row other p)))
      by_tests (inr e) f = rw e.0 (stays (λ p. e.1 (offset_row d.nrows i j k l row other p)))

  pub set_values : (d : Dense T) (i j : ℕ) (w : T) → length d.values ≡ d.nrows * d.ncols
      → i < d.nrows → j < d.ncols
      → HasValues d.nrows d.ncols (λ k l z. if k == i && l == j then w else value_at d k l z)
      (with_value_at d i j w)
  set_values d i j w sound row col =
      let within : j * d.nrows + i < length d.values =
      rw sound (mul-add-lt j d.nrows i d.ncols col row) in record {
        rows = refl;
        cols = refl;
        count = length-set d.values (j * d.nrows + i) w ∙ sound;
        values = λ k l z inside _. one_set d i j w k l z row inside within;
      }

  -- columns has the values of rows, up to row i of column j
  pub record IsFilled (n m : ℕ) (rows columns : List T) (j i : ℕ) : Type 0 where
    pub count : length columns ≡ j * n + i
    pub placed : (k l : ℕ) (z : T) → k < n → l * n + k < j * n + i
        → get_or columns (l * n + k) z ≡ get_or rows (k * m + l) z

  pub none_filled : {n m : ℕ} {rows : List T} → IsFilled n m rows [] 0 0
  none_filled =
      record { count = omega arith; placed = λ k l z _ below. absurd (omega arith) }

  pub filled_more : {n m : ℕ} {rows columns : List T} {j i : ℕ} {v : T}
      → IsFilled n m rows columns j i → i < n → v ≡ get_or rows (i * m + j) v
      → i * m + j < length rows → IsFilled n m rows (columns ++ v ∷ []) j (i + 1)
  filled_more {n} {m} {rows} {columns} {j} {i} {v} filled row is within = record {
    count = omega (arith, length-append columns (v ∷ []), filled.count);
    placed = λ k l z inside below. by_offset k l z inside (eq-or-lt_of_le (omega arith));
  }
    where
      at_seam : (k l : ℕ) (z : T) → k ≡ i → l ≡ j
          → get_or (columns ++ v ∷ []) (l * n + k) z ≡ get_or rows (k * m + l) z
      at_seam k l z e f = rw (e, f, ← filled.count)
          (get_or-append_seam columns v [] z ∙ is ∙ get_or_default rows (i * m + j) v z within)

      by_offset : (k l : ℕ) (z : T) → k < n → (l * n + k ≡ j * n + i) ⊎ (l * n + k < j * n + i)
          → get_or (columns ++ v ∷ []) (l * n + k) z ≡ get_or rows (k * m + l) z
      by_offset k l z inside (inl here) = at_seam k l z (offset_row n i j k l row inside here)
          (offset_col n i j k l row inside here)
      by_offset k l z inside (inr before) = get_or_append_left columns (v ∷ []) z (l * n + k)
          (omega (arith, filled.count)) ∙ filled.placed k l z inside before

  pub column_filled : {n m : ℕ} {rows columns : List T} {j : ℕ}
      → IsFilled n m rows columns j n → IsFilled n m rows columns (j + 1) 0
  column_filled {n} {m} {rows} {columns} {j} filled =
      let next : (j + 1) * n + 0 ≡ j * n + n = omega (arith, add-mul j 1 n) in
      record { count = filled.count ∙ sym next; placed = rw next filled.placed }

  pub all_filled : {n m : ℕ} {rows columns : List T} → IsFilled n m rows columns m 0
      → HasValues n m (λ i j z. get_or rows (i * m + j) z) (dense_of n m columns)
  all_filled {n} {m} filled = record {
    rows = refl;
    cols = refl;
    count = omega (arith, filled.count, mul_comm n m);
    values = λ i j z row col. filled.placed i j z row
        (omega (arith, mul-add-lt j n i m col row, mul_comm n m));
  }

  pub no_values : (n m : ℕ) (value : ℕ → ℕ → T → T) → n * m ≡ 0
      → HasValues n m value (dense_of n m [])
  no_values n m value none = record {
    rows = refl;
    cols = refl;
    count = sym none;
    values = λ i j z row col. absurd (omega (arith, mul-add-lt i m j n row col, none));
  }

-- `count` columns from column `first` on lie within the values
pub columns_within : (n first count cols : ℕ) → first + count ≤ cols
    → first * n + count * n ≤ n * cols
columns_within n first count cols le = omega (
  arith,
  mul-le-mul_right n le,
  add-mul first count n,
  mul_comm n cols,
)

pub columns_read : {T : Type 0} (xs : List T) (n first count i j : ℕ) (z : T) → i < n → j < count
    → first * n + count * n ≤ length xs
    → get_or (slice_range xs (first * n) (first * n + count * n)) (j * n + i) z ≡ get_or xs
    ((first + j) * n + i) z
columns_read xs n first count i j z row col room =
    let place : (first + j) * n + i ≡ first * n + (j * n + i) = omega (arith, add-mul first j n) in
    let within : j * n + i < count * n = omega
    (arith, mul-add-lt j n i count col row, mul_comm n count) in
    rw place (grind (arith, common_steps, within, room))
