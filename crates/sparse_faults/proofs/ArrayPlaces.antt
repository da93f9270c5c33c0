-- The number of the entries of an array, and where they are.
use Rattle.std.proofs.Common.{◌≡◌, ℕ, zero, suc, ◌+◌, ◌-◌, ◌*◌, ◌<◌, ◌≤◌, true, List, [], ◌∷◌, ◌++◌}
use Rattle.std.proofs.Common.{length, map, Some, refl, sym, ap, ◌∙◌, inl, inr, arith, length-append}
use Rattle.std.specs.Prelude.{◌⊎◌, ◌/◌, slice_get}
use Rattle.std.specs.List.{AllByRecursion, flat_map, range_with_len}
use Rattle.std.proofs.lemmas.Bool.{eqb-true, le-ltb, lt-ltb}
use Rattle.std.proofs.lemmas.List.Concat.{flat_map-cons}
use Rattle.std.proofs.lemmas.List.FromFn.{length-map-range_with_len}
use Rattle.sparse_algebra.proofs.Cases.{lt_or_ge}
use Rattle.sparse_parser.specs.declared.header.Symmetry.{Symmetry}
use Rattle.sparse_parser.specs.declared.header.Symmetry.TheVariants.{General, Symmetric}
use Rattle.sparse_parser.specs.declared.header.Symmetry.TheVariants.{SkewSymmetric, Hermitian}
use Rattle.sparse_parser.specs.ArrayPlaces.{first_row, column, array_places, array_count}
use Rattle.sparse_parser.specs.Meaning.{is_fitting}
use Rattle.sparse_faults.specs.InnerFirstFaults.{is_lower}

-- ---- their number

columns : Symmetry → ℕ → ℕ → ℕ → List (ℕ × ℕ)
columns y rows col n = flat_map (column y rows) (range_with_len col n)

module _ (rows : ℕ) where
  one_column : (y : Symmetry) (col n : ℕ) → length (columns y rows col (suc n))
      ≡ (rows - first_row y col) + length (columns y rows (col + 1) n)
  unfolding columns
  one_column y col n =
      ap (λ (x : List (ℕ × ℕ)). length x)
      (flat_map-cons (column y rows) col (range_with_len (col + 1) n))
      ∙ length-append (column y rows col) (columns y rows (col + 1) n)
      ∙ ap (λ (k : ℕ). k + length (columns y rows (col + 1) n))
      (length-map-range_with_len (λ row. (row, col)) (first_row y col) (rows - first_row y col))

  no_column : (y : Symmetry) (col : ℕ) → length (columns y rows col 0) ≡ 0
  unfolding columns
  no_column y col = refl

  general_length : (n col : ℕ) → length (columns General rows col n) ≡ rows * n
  general_length zero col = let e = no_column General col in omega arith
  general_length (suc n) col =
      let e = one_column General col n in
      let k = general_length n (col + 1) in
      omega arith

  lower_length : (y : Symmetry) → ((col : ℕ) → first_row y col ≡ col) → (n col : ℕ)
      → rows ≡ col + n → 2 * length (columns y rows col n) ≡ n * (n + 1)
  lower_length y first zero col r = let e = no_column y col in omega arith
  lower_length y first (suc n) col r =
      let e = one_column y col n in
      let f = first col in
      let k = lower_length y first n (col + 1) (omega arith) in
      omega arith

  strict_length : (n col : ℕ) → rows ≡ col + n
      → 2 * length (columns SkewSymmetric rows col n) + n ≡ n * n
  strict_length zero col r = let e = no_column SkewSymmetric col in omega arith
  strict_length (suc n) col r =
      let e = one_column SkewSymmetric col n in
      let k = strict_length n (col + 1) (omega arith) in
      omega arith

half : (n m : ℕ) → 2 * n ≡ m → n ≡ m / 2
half n m e = rw (sym e) (omega arith)

below_square : (n l : ℕ) → 2 * l + n ≡ n * n → 2 * l ≡ n * (n - 1)
below_square zero l e = omega arith
below_square (suc n) l e = let f : suc n - 1 ≡ n = omega arith in rw f (omega arith)

pub length-array_places : (y : Symmetry) (rows cols : ℕ) → is_fitting y rows cols ≡ true
    → length (array_places y rows cols) ≡ array_count y rows cols
unfolding array_places array_count columns
length-array_places General rows cols f = general_length rows cols 0
length-array_places Symmetric rows cols f =
    let e = eqb-true rows cols f in
    half _ _ (rw e (lower_length cols Symmetric (λ col. refl) cols 0 (omega arith)))
length-array_places SkewSymmetric rows cols f =
    let e = eqb-true rows cols f in
    half _ _ (rw e (below_square cols _ (strict_length cols cols 0 (omega arith))))
length-array_places Hermitian rows cols f =
    let e = eqb-true rows cols f in
    half _ _ (rw e (lower_length cols Hermitian (λ col. refl) cols 0 (omega arith)))

-- ---- where they are

both : (P : ℕ × ℕ → Type 0) (xs ys : List (ℕ × ℕ)) → AllByRecursion P xs → AllByRecursion P ys
    → AllByRecursion P (xs ++ ys)
both P [] ys h k = k
both P (x ∷ xs) ys h k = (h.0, both P xs ys h.1 k)

pub found_at : (P : ℕ × ℕ → Type 0) (xs : List (ℕ × ℕ)) (i : ℕ) → AllByRecursion P xs → i < length xs
    → (p : ℕ × ℕ) × (slice_get xs i ≡ Some p) × P p
found_at P [] i h lt = absurd (omega arith)
found_at P (x ∷ xs) zero h lt = (x, refl, h.0)
found_at P (x ∷ xs) (suc i) h lt = found_at P xs i h.1 (omega arith)

-- a row and a column of the array, in the part that a text with this symmetry lists
pub record IsPlace (y : Symmetry) (rows cols : ℕ) (p : ℕ × ℕ) : Type 0 where
  pub row : p.0 < rows
  pub col : p.1 < cols
  pub lower : is_lower y p ≡ true

from_first : (y : Symmetry) (row col : ℕ) → first_row y col ≤ row → is_lower y (row, col) ≡ true
from_first General row col le = refl
from_first Symmetric row col le = rw (le-ltb row col le) refl
from_first SkewSymmetric row col le = lt-ltb col row (omega arith)
from_first Hermitian row col le = rw (le-ltb row col le) refl

module _ (y : Symmetry) (rows cols : ℕ) where
  in_column : (col n row : ℕ) → col < cols → first_row y col ≤ row → row + n ≤ rows
      → AllByRecursion (IsPlace y rows cols) (map (λ row. (row, col)) (range_with_len row n))
  in_column col zero row lt first le = tt
  in_column col (suc n) row lt first le = (
    record { row = omega arith; col = lt; lower = from_first y row col first },
    in_column col n (row + 1) lt (omega arith) (omega arith),
  )

  in_columns : (n col : ℕ) → col + n ≤ cols
      → AllByRecursion (IsPlace y rows cols) (columns y rows col n)
  unfolding columns
  in_columns zero col le = tt
  in_columns (suc n) col le =
      rw (flat_map-cons (column y rows) col (range_with_len (col + 1) n))
      (both (IsPlace y rows cols) (column y rows col) (columns y rows (col + 1) n) here
      (in_columns n (col + 1) (omega arith)))
    where
      here : AllByRecursion (IsPlace y rows cols) (column y rows col)
      here = by (lt_or_ge rows (first_row y col))
        where
          by : (rows < first_row y col) ⊎ (first_row y col ≤ rows)
              → AllByRecursion (IsPlace y rows cols) (column y rows col)
          by (inl l) = let e : rows - first_row y col ≡ 0 = omega arith in rw e tt
          by (inr g) = in_column col (rows - first_row y col) (first_row y col) (omega arith)
              (omega arith) (omega arith)

  pub in_array : AllByRecursion (IsPlace y rows cols) (array_places y rows cols)
  unfolding array_places columns
  in_array = in_columns cols 0 (omega arith)
