-- The triplets of data lines, while they are searched for faults.
use Rattle.std.proofs.Common.{◌≡◌, ℕ, suc, ◌<◌, Bool, true, false, List, [], ◌∷◌, ◌++◌}
use Rattle.std.proofs.Common.{length, drop, ltb, eqb, Option, Some, None, Ok, Err, refl, sym, ◌∙◌}
use Rattle.std.proofs.Common.{arith}
use Rattle.std.specs.Prelude.{◌&&◌, ◌==◌, nat_lt, slice_get, if◌then◌else◌}
use Rattle.std.specs.List.{list_all}
use Rattle.std.specs.Result.{is_ok}
use Rattle.std.proofs.lemmas.Bool.{eqb-true, lt-ltb}
use Rattle.std.proofs.lemmas.List.Folds.{list_all-append}
use Rattle.sparse_algebra.proofs.Cases.{and_parts}
use Rattle.sparse_parser.specs.declared.error.MatrixMarketErrorKind.{MatrixMarketErrorKind}
use Rattle.sparse_parser.specs.declared.error.MatrixMarketErrorKind.TheVariants.{NotLowerTriangle}
use Rattle.sparse_parser.specs.declared.error.MatrixMarketErrorKind.TheVariants.{DiagonalError}
use Rattle.sparse_parser.specs.declared.header.Format.{Format}
use Rattle.sparse_parser.specs.declared.header.Format.TheVariants.{Coordinate, Array}
use Rattle.sparse_parser.specs.declared.header.Field.{Field}
use Rattle.sparse_parser.specs.declared.header.Field.TheVariants.{Real, Complex, Integer, Pattern}
use Rattle.sparse_parser.specs.declared.header.Header.{Header}
use Rattle.sparse_parser.specs.declared.header.Symmetry.{Symmetry}
use Rattle.sparse_parser.specs.declared.header.Symmetry.TheVariants.{General, Symmetric}
use Rattle.sparse_parser.specs.declared.header.Symmetry.TheVariants.{SkewSymmetric, Hermitian}
use Rattle.sparse_parser.specs.Grammar.{is_index}
use Rattle.sparse_parser.specs.Meaning.{Triplet, number_of, place_of, is_of_field, is_fitting}
use Rattle.sparse_parser.specs.Meaning.{field_value, placed, entry_of, mirrored, triplets_of, is_inside}
use Rattle.sparse_parser.specs.Meaning.{triplets_of_lines}
use Rattle.sparse_parser.specs.Reads.{Read}
use Rattle.sparse_parser.specs.Scalars.{Scalar}
use Rattle.sparse_faults.specs.InnerFirstFaults.{is_err_or, is_within}
use Rattle.sparse_faults.proofs.LineTriplets.{IsPlaced, any_place}

-- ---- the triplets of lines

module _ (S : Scalar) (h : Header) (rows cols : ℕ) where
  -- the first `n` places are those of data lines below the header
  abbrev pub ArePlaced : List (ℕ × ℕ) → ℕ → Type 0
  ArePlaced places n =
      (i : ℕ) → i < n → IsPlaced h.format h.symmetry rows cols (slice_get places i)

  pub one_ok : (at : Option (ℕ × ℕ)) (words : List (List ℕ))
      → IsPlaced h.format h.symmetry rows cols at
      → is_ok (triplets_of S h (Some (1, 0)) words) ≡ true
      → (ts : List (Triplet S.Value)) × (triplets_of S h at words ≡ Ok ts)
  one_ok at words f e = by (triplets_of S h at words) refl
    where
      by : (r : Read (List (Triplet S.Value))) → triplets_of S h at words ≡ r
          → (ts : List (Triplet S.Value)) × (triplets_of S h at words ≡ Ok ts)
      by (Ok ts) g = (ts, g)
      by (Err k) g = absurd (let a : is_ok (triplets_of S h at words) ≡ true =
          any_place S h rows cols at words f ∙ e in
          let b : is_ok (triplets_of S h at words) ≡ false = rw g refl in cc)

  pub one_err : (at : Option (ℕ × ℕ)) (words : List (List ℕ))
      → IsPlaced h.format h.symmetry rows cols at
      → is_ok (triplets_of S h (Some (1, 0)) words) ≡ false
      → (kind : MatrixMarketErrorKind) × (triplets_of S h at words ≡ Err kind)
  one_err at words f e = by (triplets_of S h at words) refl
    where
      by : (r : Read (List (Triplet S.Value))) → triplets_of S h at words ≡ r
          → (kind : MatrixMarketErrorKind) × (triplets_of S h at words ≡ Err kind)
      by (Err k) g = (k, g)
      by (Ok ts) g = absurd (let a : is_ok (triplets_of S h at words) ≡ false =
          any_place S h rows cols at words f ∙ e in
          let b : is_ok (triplets_of S h at words) ≡ true = rw g refl in cc)

  more_lines : (places : List (ℕ × ℕ)) (words : List (List ℕ)) (lines : List (List (List ℕ)))
      (ts us : List (Triplet S.Value)) → triplets_of S h (slice_get places 0) words ≡ Ok ts
      → triplets_of_lines S h (drop 1 places) lines ≡ Ok us
      → triplets_of_lines S h places (words ∷ lines) ≡ Ok (ts ++ us)
  unfolding triplets_of_lines
  more_lines places words lines ts us e f = rw (e, f) refl

  fewer_places : (places : List (ℕ × ℕ)) (n : ℕ) → ArePlaced places (suc n)
      → ArePlaced (drop 1 places) n
  fewer_places [] n f = λ i lt. f (suc i) (omega arith)
  fewer_places (p ∷ places) n f = λ i lt. f (suc i) (omega arith)

  pub lines_ok : (places : List (ℕ × ℕ)) (lines : List (List (List ℕ)))
      → ArePlaced places (length lines)
      → list_all (λ words. is_ok (triplets_of S h (Some (1, 0)) words)) lines ≡ true
      → (ts : List (Triplet S.Value)) × (triplets_of_lines S h places lines ≡ Ok ts)
  unfolding triplets_of_lines
  lines_ok places [] f e = ([], refl)
  lines_ok places (words ∷ lines) f e =
      let both = and_parts _ _ e in
      let first = one_ok (slice_get places 0) words (f 0 (omega arith)) both.0 in
      let others = lines_ok (drop 1 places) lines (fewer_places places (length lines) f) both.1 in
      (first.0 ++ others.0, more_lines places words lines first.0 others.0 first.1 others.1)

  -- ---- triplets within the shape

  abbrev inside : List (Triplet S.Value) → Bool
  inside ts = list_all (is_inside S rows cols) ts

  mirror_both : (a b : Bool) → ((a && b) && ((b && a) && true)) ≡ (a && b)
  mirror_both true true = refl
  mirror_both true false = refl
  mirror_both false b = refl

  one_only : (a : Bool) → (a && true) ≡ a
  one_only true = refl
  one_only false = refl

  -- in a square shape the mirrored entry is within the shape if the entry is
  mirror_inside : (a b : ℕ) (v w : S.Value) → rows ≡ cols
      → inside ((a, b, v) ∷ (b, a, w) ∷ []) ≡ (nat_lt a rows && nat_lt b cols)
  mirror_inside a b v w e = rw e (mirror_both (nat_lt a cols) (nat_lt b cols))

  mirrored_even : (y : Symmetry) (a b : ℕ) (v : S.Value) (us : List (Triplet S.Value))
      → rows ≡ cols → mirrored S y (a, b, v) ≡ Ok us
      → mirrored S y (a, b, v) ≡ (if nat_lt a b then Err NotLowerTriangle
      else if a == b then Ok ((a, b, v) ∷ []) else Ok ((a, b, v) ∷ (b, a, v) ∷ []))
      → inside us ≡ (nat_lt a rows && nat_lt b cols)
  mirrored_even y a b v us q e m = by (ltb a b) (eqb a b) refl refl
    where
      by : (s t : Bool) → ltb a b ≡ s → eqb a b ≡ t
          → inside us ≡ (nat_lt a rows && nat_lt b cols)
      by true t f g = absurd (let k : mirrored S y (a, b, v) ≡ Err NotLowerTriangle =
          m ∙ rw f refl in cc)
      by false true f g =
          let k : mirrored S y (a, b, v) ≡ Ok ((a, b, v) ∷ []) = m ∙ rw (f, g) refl in
          let l : us ≡ (a, b, v) ∷ [] = cc in
          rw l (one_only (nat_lt a rows && nat_lt b cols))
      by false false f g =
          let k : mirrored S y (a, b, v) ≡ Ok ((a, b, v) ∷ (b, a, v) ∷ []) =
          m ∙ rw (f, g) refl in
          let l : us ≡ (a, b, v) ∷ (b, a, v) ∷ [] = cc in
          rw l (mirror_inside a b v v q)

  mirrored_inside : (y : Symmetry) (a b : ℕ) (v : S.Value) (us : List (Triplet S.Value))
      → is_fitting y rows cols ≡ true → mirrored S y (a, b, v) ≡ Ok us
      → inside us ≡ (nat_lt a rows && nat_lt b cols)
  unfolding mirrored
  mirrored_inside General a b v us q e =
      let l : us ≡ (a, b, v) ∷ [] = cc in
      rw l (one_only (nat_lt a rows && nat_lt b cols))
  mirrored_inside Symmetric a b v us q e =
      mirrored_even Symmetric a b v us (eqb-true rows cols q) e refl
  mirrored_inside Hermitian a b v us q e =
      mirrored_even Hermitian a b v us (eqb-true rows cols q) e refl
  mirrored_inside SkewSymmetric a b v us q e = by (ltb a b) (eqb a b) (S.negated v) refl refl refl
    where
      by : (s t : Bool) (r : Read S.Value) → ltb a b ≡ s → eqb a b ≡ t → S.negated v ≡ r
          → inside us ≡ (nat_lt a rows && nat_lt b cols)
      by true t r f g n = absurd (let k : mirrored S SkewSymmetric (a, b, v) ≡ Err NotLowerTriangle =
          rw f refl in cc)
      by false true r f g n = absurd (let k : mirrored S SkewSymmetric (a, b, v) ≡ Err DiagonalError =
          rw (f, g) refl in cc)
      by false false (Err k) f g n = absurd (let m : mirrored S SkewSymmetric (a, b, v) ≡ Err k =
          rw (f, g, n) refl in cc)
      by false false (Ok w) f g n =
          let k : mirrored S SkewSymmetric (a, b, v) ≡ Ok ((a, b, v) ∷ (b, a, w) ∷ []) =
          rw (f, g, n) refl in
          let l : us ≡ (a, b, v) ∷ (b, a, w) ∷ [] = cc in
          rw l (mirror_inside a b v w (eqb-true rows cols q))

  -- an entry of the coordinate format is within the shape if its row and column are
  coordinate_inside : (field : Field) (at : Option (ℕ × ℕ)) (words : List (List ℕ))
      (t : Triplet S.Value) → entry_of S Coordinate field at words ≡ Ok t
      → (nat_lt t.0 rows && nat_lt t.1 cols) ≡ is_within rows cols words
  unfolding entry_of is_within
  coordinate_inside field at [] t e = absurd cc
  coordinate_inside field at (row ∷ []) t e = absurd cc
  coordinate_inside field at (row ∷ col ∷ words) t e =
      by (is_index row) (is_index col) (is_of_field field words) refl refl refl
    where
      placed_inside : (place : Read (ℕ × ℕ)) (value : Read S.Value) → placed S place value ≡ Ok t
          → (nat_lt t.0 rows && nat_lt t.1 cols)
          ≡ is_err_or (λ p. nat_lt p.0 rows && nat_lt p.1 cols) place
      placed_inside (Err k) value f = absurd cc
      placed_inside (Ok p) (Err k) f = absurd cc
      placed_inside (Ok p) (Ok v) f = let l : (p.0, p.1, v) ≡ t = cc in rw (sym l) refl

      by : (a b d : Bool) → is_index row ≡ a → is_index col ≡ b → is_of_field field words ≡ d
          → (nat_lt t.0 rows && nat_lt t.1 cols) ≡ is_within rows cols (row ∷ col ∷ words)
      by true true true f g k =
          let l : entry_of S Coordinate field at (row ∷ col ∷ words)
          ≡ placed S (place_of (number_of row) (number_of col)) (field_value S field words) =
          rw (f, g, k) refl in
          rw (f, g) (placed_inside (place_of (number_of row) (number_of col))
          (field_value S field words) (sym l ∙ e))
      by true true false f g k = absurd (let l : is_ok (entry_of S Coordinate field at
          (row ∷ col ∷ words)) ≡ false = rw (f, g, k) refl in
          let m : is_ok (entry_of S Coordinate field at (row ∷ col ∷ words)) ≡ true =
          rw e refl in cc)
      by true false d f g k = absurd (let l : is_ok (entry_of S Coordinate field at
          (row ∷ col ∷ words)) ≡ false = rw (f, g) refl in
          let m : is_ok (entry_of S Coordinate field at (row ∷ col ∷ words)) ≡ true =
          rw e refl in cc)
      by false b d f g k = absurd (let l : is_ok (entry_of S Coordinate field at
          (row ∷ col ∷ words)) ≡ false = rw f refl in
          let m : is_ok (entry_of S Coordinate field at (row ∷ col ∷ words)) ≡ true =
          rw e refl in cc)

  -- one of an array is, and its line names no row and column
  array_words : (field : Field) (words : List (List ℕ)) → is_of_field field words ≡ true
      → is_ok (field_value S field words) ≡ true → is_within rows cols words ≡ true
  unfolding is_within field_value
  array_words Integer [] e f = absurd cc
  array_words Integer (v ∷ []) e f = refl
  array_words Integer (v ∷ w ∷ words) e f = absurd cc
  array_words Pattern [] e f = refl
  array_words Pattern (v ∷ words) e f = absurd cc
  array_words Real words e f = absurd cc
  array_words Complex words e f = absurd cc

  array_inside : (field : Field) (p : ℕ × ℕ) (words : List (List ℕ)) (t : Triplet S.Value)
      → p.0 < rows → p.1 < cols → entry_of S Array field (Some p) words ≡ Ok t
      → (nat_lt t.0 rows && nat_lt t.1 cols) ≡ is_within rows cols words
  unfolding entry_of
  array_inside field p words t r c e = by (is_of_field field words) (field_value S field words) refl refl
    where
      by : (d : Bool) (value : Read S.Value) → is_of_field field words ≡ d
          → field_value S field words ≡ value
          → (nat_lt t.0 rows && nat_lt t.1 cols) ≡ is_within rows cols words
      by true (Ok v) f g =
          let k : entry_of S Array field (Some p) words ≡ Ok (p.0, p.1, v) = rw (f, g) refl in
          let l : (p.0, p.1, v) ≡ t = cc in
          let ok : is_ok (field_value S field words) ≡ true = rw g refl in
          rw (sym l, lt-ltb p.0 rows r, lt-ltb p.1 cols c)
          (sym (array_words field words f ok))
      by true (Err k) f g = absurd (let l : entry_of S Array field (Some p) words ≡ Err k =
          rw (f, g) refl in cc)
      by false value f g = absurd (let l : is_ok (entry_of S Array field (Some p) words) ≡ false =
          rw f refl in
          let m : is_ok (entry_of S Array field (Some p) words) ≡ true = rw e refl in cc)

  entry_inside : (format : Format) (field : Field) (y : Symmetry) (at : Option (ℕ × ℕ))
      (words : List (List ℕ)) (t : Triplet S.Value) → IsPlaced format y rows cols at
      → entry_of S format field at words ≡ Ok t
      → (nat_lt t.0 rows && nat_lt t.1 cols) ≡ is_within rows cols words
  entry_inside Coordinate field y at words t f e = coordinate_inside field at words t e
  entry_inside Array field y None words t f e = absurd f
  entry_inside Array field y (Some p) words t f e = array_inside field p words t f.row f.col e

  module _ (fits : is_fitting h.symmetry rows cols ≡ true) where
    pub one_inside : (at : Option (ℕ × ℕ)) (words : List (List ℕ)) (us : List (Triplet S.Value))
        → IsPlaced h.format h.symmetry rows cols at → triplets_of S h at words ≡ Ok us
        → list_all (is_inside S rows cols) us ≡ is_within rows cols words
    unfolding triplets_of
    one_inside at words us f e = by (entry_of S h.format h.field at words) refl
      where
        by : (r : Read (Triplet S.Value)) → entry_of S h.format h.field at words ≡ r
            → list_all (is_inside S rows cols) us ≡ is_within rows cols words
        by (Ok t) g =
            let k : triplets_of S h at words ≡ mirrored S h.symmetry t = rw g refl in
            mirrored_inside h.symmetry t.0 t.1 t.2 us fits (sym k ∙ e)
            ∙ entry_inside h.format h.field h.symmetry at words t f g
        by (Err k) g = absurd (let l : triplets_of S h at words ≡ Err k = rw g refl in cc)

    pub lines_inside : (places : List (ℕ × ℕ)) (lines : List (List (List ℕ)))
        (ts : List (Triplet S.Value)) → ArePlaced places (length lines)
        → triplets_of_lines S h places lines ≡ Ok ts
        → list_all (is_within rows cols) lines ≡ true
        → list_all (is_inside S rows cols) ts ≡ true
    unfolding triplets_of_lines
    lines_inside places [] ts f e w = let l : ts ≡ [] = cc in rw l refl
    lines_inside places (words ∷ lines) ts f e w =
        by (triplets_of S h (slice_get places 0) words)
        (triplets_of_lines S h (drop 1 places) lines) refl refl
        (λ vs k. lines_inside (drop 1 places) lines vs
        (fewer_places places (length lines) f) k (and_parts _ _ w).1)
      where
        by : (r q : Read (List (Triplet S.Value)))
            → triplets_of S h (slice_get places 0) words ≡ r
            → triplets_of_lines S h (drop 1 places) lines ≡ q
            → ((vs : List (Triplet S.Value))
            → triplets_of_lines S h (drop 1 places) lines ≡ Ok vs
            → list_all (is_inside S rows cols) vs ≡ true)
            → list_all (is_inside S rows cols) ts ≡ true
        by (Ok us) (Ok vs) g k below =
            let l = more_lines places words lines us vs g k in
            let m : ts ≡ us ++ vs = cc in
            let both = and_parts _ _ w in
            let here : list_all (is_inside S rows cols) us ≡ true =
            one_inside (slice_get places 0) words us (f 0 (omega arith)) g ∙ both.0 in
            rw (m, list_all-append (is_inside S rows cols) us vs, here, below vs k) refl
        by (Err i) q g k below = absurd (let l : triplets_of_lines S h places (words ∷ lines) ≡ Err i =
            rw g refl in cc)
        by (Ok us) (Err i) g k below = absurd (let l : triplets_of_lines S h places (words ∷ lines) ≡ Err i =
            rw (g, k) refl in cc)
