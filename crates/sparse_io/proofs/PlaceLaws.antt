-- The entries left of an array, while a loop removes them one by one.
use Rattle.std.proofs.Common.{◌≡◌, ℕ, zero, suc, ◌+◌, ◌-◌, ◌<◌, ◌≤◌, Bool, true, false, ltb}
use Rattle.std.proofs.Common.{List, [], ◌∷◌, ◌++◌, length, drop, slice_get, leb, ◌==◌}
use Rattle.std.proofs.Common.{Some, refl, sym, ap, ◌∙◌, arith}
use Rattle.std.specs.List.{flat_map, range_with_len}
use Rattle.std.proofs.Math.Dec.{eqb-suc-zero}
use Rattle.std.proofs.lemmas.Bool.{lt-ltb, le-ltb, lt-leb, le-leb, ltb-true, ltb-false}
use Rattle.std.proofs.lemmas.List.Concat.{flat_map-cons}
use Rattle.sparse_parser.specs.declared.header.Symmetry.{Symmetry}
use Rattle.sparse_parser.specs.declared.header.Symmetry.TheVariants.{General, Symmetric}
use Rattle.sparse_parser.specs.declared.header.Symmetry.TheVariants.{SkewSymmetric, Hermitian}
use Rattle.sparse_parser.specs.ArrayPlaces.{first_row, column, array_places}
use Rattle.sparse_io.specs.InnerPlaces.{column_left, columns_left, left_from}

-- a nonempty range begins with its first number
range_more : (a n m : ℕ) → n ≡ suc m → range_with_len a n ≡ a ∷ range_with_len (a + 1) m
range_more a n m e = rw e refl

none_in : (a n : ℕ) → n ≡ 0 → range_with_len a n ≡ []
none_in a n e = rw e refl

module _ (s : Symmetry) (rows cols : ℕ) where
  columns_none : (col : ℕ) → cols ≤ col → columns_left s rows cols col ≡ []
  columns_none col le = rw (none_in col (cols - col) (omega arith)) refl

  columns_more : (col : ℕ) → col < cols
      → columns_left s rows cols col ≡ column s rows col ++ columns_left s rows cols (col + 1)
  columns_more col lt =
      rw (range_more col (cols - col) (cols - (col + 1)) (omega arith))
      (flat_map-cons (column s rows) col (range_with_len (col + 1) (cols - (col + 1))))

  left_inside : (row col : ℕ) → col < cols → left_from s rows cols row col ≡ column_left rows row
      col ++ columns_left s rows cols (col + 1)
  left_inside row col lt = rw (lt-ltb col cols lt) refl

  left_outside : (row col : ℕ) → cols ≤ col → left_from s rows cols row col ≡ []
  left_outside row col le = rw (le-ltb col cols le) refl

  column_none : (row col : ℕ) → rows ≤ row → column_left rows row col ≡ []
  column_none row col le = rw (none_in row (rows - row) (omega arith)) refl

  column_more : (row col : ℕ) → row < rows
      → column_left rows row col ≡ (row, col) ∷ column_left rows (row + 1) col
  column_more row col lt = rw (range_more row (rows - row) (rows - (row + 1)) (omega arith)) refl

  later : (s : Symmetry) (col : ℕ) → first_row s col ≤ first_row s (col + 1)
  later General col = omega arith
  later Symmetric col = omega arith
  later SkewSymmetric col = omega arith
  later Hermitian col = omega arith

  -- after a column without entries there are none
  columns_empty : (n col : ℕ) → cols - col ≡ n → rows ≤ first_row s col
      → columns_left s rows cols col ≡ []
  columns_empty zero col e le = columns_none col (omega arith)
  columns_empty (suc n) col e le =
      columns_more col (omega arith)
      ∙ ap (λ (x : List (ℕ × ℕ)). x ++ columns_left s rows cols (col + 1))
      (column_none (first_row s col) col le)
      ∙ columns_empty n (col + 1) (omega arith) (let l = later s col in omega arith)

  left_first : (row col : ℕ) → col < cols → row < rows
      → left_from s rows cols row col ≡ (row, col) ∷ left_from s rows cols (row + 1) col
  left_first row col lt inside =
      left_inside row col lt ∙ ap (λ (x : List (ℕ × ℕ)). x ++ columns_left s rows cols (col + 1))
      (column_more row col inside)
      ∙ ap (λ (x : List (ℕ × ℕ)). (row, col) ∷ x) (sym (left_inside (row + 1) col lt))

  -- the columns from the first on are the whole array
  pub columns_all : (all : ℕ) → all ≡ cols → columns_left s rows all 0 ≡ array_places s rows cols
  unfolding array_places
  columns_all all e =
      let k : all - 0 ≡ cols = omega (arith, e) in
      ap (λ (n : ℕ). flat_map (column s rows) (range_with_len 0 n)) k

  -- the entries from a column on begin with its first entry, if it has one
  pub columns_start : (row col : ℕ) → row ≡ first_row s col → col < cols
      → left_from s rows cols row col ≡ columns_left s rows cols col
  columns_start row col e lt =
      left_inside row col lt
      ∙ ap (λ (r : ℕ). column_left rows r col ++ columns_left s rows cols (col + 1)) e
      ∙ sym (columns_more col lt)

  pub columns_end : (row col : ℕ) → row ≡ first_row s col → rows ≤ row
      → left_from s rows cols 0 cols ≡ columns_left s rows cols col
  columns_end row col e le =
      left_outside 0 cols (omega arith)
      ∙ sym (columns_empty (cols - col) col refl (omega (arith, e, le)))

  -- removing an entry of a column leaves those from the next row on
  pub left_next : (row col : ℕ) → col < cols → row < rows
      → left_from s rows cols (row + 1) col ≡ drop 1 (left_from s rows cols row col)
  left_next row col lt inside =
      sym (ap (λ (l : List (ℕ × ℕ)). drop 1 l) (left_first row col lt inside))

  module _ (row col : ℕ) where
    -- removing the last entry of a column leaves the columns after it
    pub left_column : col < cols → row < rows → rows ≤ row + 1
        → columns_left s rows cols (col + 1) ≡ drop 1 (left_from s rows cols row col)
    left_column lt inside last =
        sym (left_inside (row + 1) col lt
        ∙ ap (λ (l : List (ℕ × ℕ)). l ++ columns_left s rows cols (col + 1))
        (column_none (row + 1) col last)) ∙ left_next row col lt inside

    pub left_some : 0 < length (left_from s rows cols row col) → col < cols
    left_some some = by (ltb col cols) refl
      where
        by : (t : Bool) → ltb col cols ≡ t → col < cols
        by true f = ltb-true col cols f
        by false f =
            let none = ap (λ (l : List (ℕ × ℕ)). length l)
            (left_outside row col (ltb-false col cols f)) in
            absurd (omega (arith, some, none))

    module _ (inside : col < cols → row < rows) where
      pub left_none : leb cols col ≡ (length (left_from s rows cols row col) == 0)
      left_none = by (ltb col cols) refl
        where
          by : (t : Bool) → ltb col cols ≡ t
              → leb cols col ≡ (length (left_from s rows cols row col) == 0)
          by true f =
              let lt = ltb-true col cols f in
              lt-leb cols col lt
              ∙ sym (ap (λ (l : List (ℕ × ℕ)). length l == 0) (left_first row col lt (inside lt))
              ∙ eqb-suc-zero (length (left_from s rows cols (row + 1) col)))
          by false f =
              let le = ltb-false col cols f in
              le-leb cols col le
              ∙ sym (ap (λ (l : List (ℕ × ℕ)). length l == 0) (left_outside row col le))

      pub left_head : 0 < length (left_from s rows cols row col)
          → slice_get (left_from s rows cols row col) 0 ≡ Some (row, col)
      left_head some =
          let lt = left_some some in
          ap (λ (l : List (ℕ × ℕ)). slice_get l 0) (left_first row col lt (inside lt))
