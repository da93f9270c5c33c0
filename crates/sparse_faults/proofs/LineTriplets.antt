-- Which data lines have triplets, and which triplets are within the shape.
use Rattle.std.proofs.Common.{◌≡◌, ◌≢◌, ℕ, ℤ, Bool, true, false, List, [], ◌∷◌, eqb, ltb}
use Rattle.std.proofs.Common.{Option, Some, None, Ok, Err, refl, sym, ap, ◌∙◌, arith}
use Rattle.std.specs.Prelude.{◌&&◌, not, nat_lt}
use Rattle.std.specs.Result.{is_ok}
use Rattle.std.specs.Str.Parse.{signed_digits_value}
use Rattle.std.proofs.Math.Bool.{and-false}
use Rattle.std.proofs.lemmas.Bool.{eqb-true, eqb-false, ltb-true, ltb-false, lt-ltb, le-ltb}
use lib.IntN.{neg_ℤ}
use Rattle.sparse_parser.specs.declared.header.Format.{Format}
use Rattle.sparse_parser.specs.declared.header.Format.TheVariants.{Coordinate, Array}
use Rattle.sparse_parser.specs.declared.header.Field.{Field}
use Rattle.sparse_parser.specs.declared.header.Field.TheVariants.{Real, Complex, Integer, Pattern}
use Rattle.sparse_parser.specs.declared.header.Header.{Header}
use Rattle.sparse_parser.specs.declared.header.Symmetry.{Symmetry}
use Rattle.sparse_parser.specs.declared.header.Symmetry.TheVariants.{General, Symmetric}
use Rattle.sparse_parser.specs.declared.header.Symmetry.TheVariants.{SkewSymmetric, Hermitian}
use Rattle.sparse_parser.specs.Grammar.{is_index, is_integer}
use Rattle.sparse_parser.specs.Header.{is_allowed}
use Rattle.sparse_parser.specs.Meaning.{Triplet, number_of, integer_of, place_of, is_of_field}
use Rattle.sparse_parser.specs.Meaning.{field_value, placed, entry_of, mirrored, triplets_of}
use Rattle.sparse_parser.specs.Reads.{Read, ◌>>=◌}
use Rattle.sparse_parser.specs.Scalars.{Scalar, fits}
use Rattle.sparse_faults.specs.declared.value_type.ValueType.{ValueType}
use Rattle.sparse_faults.specs.declared.value_type.ValueType.TheVariants.{Wide, Wrapping, Nothing}
use Rattle.sparse_faults.specs.InnerFirstFaults.{has_negative, has_triplets, is_lower, is_nothing}
use Rattle.sparse_faults.specs.InnerFirstFaults.{is_ok_and, is_value}
use Rattle.sparse_faults.specs.ValueTypes.{scalar_as}
use Rattle.sparse_faults.proofs.ArrayPlaces.{IsPlace}

-- ---- a triplet, and the mirrored one

-- the place that a data line of an array has; a line in coordinate format may have any, since it
-- names its own
abbrev pub IsPlaced : Format → Symmetry → ℕ → ℕ → Option (ℕ × ℕ) → Type 0
IsPlaced Coordinate y rows cols at = Unit {0}
IsPlaced Array y rows cols None = ⊥
IsPlaced Array y rows cols (Some p) = IsPlace y rows cols p

module _ (S : Scalar) where
  is_negatable : Symmetry → S.Value → Bool
  is_negatable General v = true
  is_negatable Symmetric v = true
  is_negatable SkewSymmetric v = is_ok (S.negated v)
  is_negatable Hermitian v = true

  mirrored_even : (a b : ℕ) (e : Bool) (v : S.Value) → eqb a b ≡ e → (t : Bool) → ltb a b ≡ t
      → (is_ok (mirrored S Symmetric (a, b, v)) ≡ (not (nat_lt a b) && true))
      × (is_ok (mirrored S Hermitian (a, b, v)) ≡ (not (nat_lt a b) && true))
  unfolding mirrored
  mirrored_even a b e v g true f = (rw f refl, rw f refl)
  mirrored_even a b true v g false f = (rw (f, g) refl, rw (f, g) refl)
  mirrored_even a b false v g false f = (rw (f, g) refl, rw (f, g) refl)

  negated_ok : (t : Triplet S.Value) (r : Read S.Value)
      → is_ok (r >>= λ v. Ok (t ∷ (t.1, t.0, v) ∷ [])) ≡ is_ok r
  negated_ok t (Ok v) = refl
  negated_ok t (Err e) = refl

  mirrored_skew : (a b : ℕ) (v : S.Value) (t e : Bool) → ltb a b ≡ t → eqb a b ≡ e
      → is_ok (mirrored S SkewSymmetric (a, b, v)) ≡ (nat_lt b a && is_ok (S.negated v))
  unfolding mirrored
  mirrored_skew a b v true e f g =
      let l = ltb-true a b f in
      let k : ltb b a ≡ false = le-ltb b a (omega arith) in
      rw (f, k) refl
  mirrored_skew a b v false true f g =
      let l = eqb-true a b g in
      let k : ltb b a ≡ false = le-ltb b a (omega arith) in
      rw (f, g, k) refl
  mirrored_skew a b v false false f g =
      let l = ltb-false a b f in
      let n = eqb-false a b g in
      let k : ltb b a ≡ true = lt-ltb b a (omega arith) in
      rw (f, g, k) (negated_ok (a, b, v) (S.negated v))

  mirrored_ok : (y : Symmetry) (a b : ℕ) (v : S.Value)
      → is_ok (mirrored S y (a, b, v)) ≡ (is_lower y (a, b) && is_negatable y v)
  unfolding mirrored is_negatable
  mirrored_ok General a b v = refl
  mirrored_ok Symmetric a b v = (mirrored_even a b (eqb a b) v refl (ltb a b) refl).0
  mirrored_ok SkewSymmetric a b v = mirrored_skew a b v (ltb a b) (eqb a b) refl refl
  mirrored_ok Hermitian a b v = (mirrored_even a b (eqb a b) v refl (ltb a b) refl).1

  placed_ok : (y : Symmetry) (place : Read (ℕ × ℕ)) (value : Read S.Value)
      → is_ok (placed S place value >>= mirrored S y)
      ≡ (is_ok_and (is_lower y) place && is_ok_and (is_negatable y) value)
  placed_ok y (Err e) value = refl
  placed_ok y (Ok p) (Err e) = sym (and-false (is_lower y p))
  placed_ok y (Ok p) (Ok v) = mirrored_ok y p.0 p.1 v

  -- a value that is refused
  placed_none : (y : Symmetry) (place : Read (ℕ × ℕ)) (value : Read S.Value) → is_ok value ≡ false
      → is_ok (placed S place value >>= mirrored S y) ≡ false
  placed_none y (Err e) value n = refl
  placed_none y (Ok p) (Err e) n = refl
  placed_none y (Ok p) (Ok v) n = absurd cc

  low : (y : Symmetry) → is_lower y (1, 0) ≡ true
  low General = refl
  low Symmetric = refl
  low SkewSymmetric = refl
  low Hermitian = refl

  any_value : (y : Symmetry) (p q : ℕ × ℕ) (value : Read S.Value) → is_lower y p ≡ true
      → is_lower y q ≡ true
      → is_ok (placed S (Ok p) value >>= mirrored S y) ≡ is_ok (placed S (Ok q) value >>= mirrored S y)
  any_value y p q value f g =
      placed_ok y (Ok p) value ∙ rw (f, g) refl ∙ sym (placed_ok y (Ok q) value)

  any_entry : (format : Format) (field : Field) (y : Symmetry) (rows cols : ℕ)
      (at : Option (ℕ × ℕ)) (words : List (List ℕ)) → IsPlaced format y rows cols at
      → is_ok (entry_of S format field at words >>= mirrored S y)
      ≡ is_ok (entry_of S format field (Some (1, 0)) words >>= mirrored S y)
  unfolding entry_of
  any_entry Coordinate field y rows cols at [] f = refl
  any_entry Coordinate field y rows cols at (row ∷ []) f = refl
  any_entry Coordinate field y rows cols at (row ∷ col ∷ words) f = refl
  any_entry Array field y rows cols None words f = absurd f
  any_entry Array field y rows cols (Some p) words f = by (is_of_field field words) refl
    where
      by : (t : Bool) → is_of_field field words ≡ t
          → is_ok (entry_of S Array field (Some p) words >>= mirrored S y)
          ≡ is_ok (entry_of S Array field (Some (1, 0)) words >>= mirrored S y)
      by true e = rw e (any_value y p (1, 0) (field_value S field words) f.lower (low y))
      by false e = rw e refl

  -- the place of an entry in an array does not matter
  pub any_place : (h : Header) (rows cols : ℕ) (at : Option (ℕ × ℕ)) (words : List (List ℕ))
      → IsPlaced h.format h.symmetry rows cols at
      → is_ok (triplets_of S h at words) ≡ is_ok (triplets_of S h (Some (1, 0)) words)
  unfolding triplets_of
  any_place h rows cols at words f = any_entry h.format h.field h.symmetry rows cols at words f

-- ---- integers

integer_fits : (v : List ℕ) (z : ℤ) → integer_of v ≡ Ok z → fits 127 z ≡ true
unfolding integer_of
integer_fits v z e = by (is_integer v) (fits 127 (signed_digits_value 10 v)) refl refl
  where
    by : (s t : Bool) → is_integer v ≡ s → fits 127 (signed_digits_value 10 v) ≡ t
        → fits 127 z ≡ true
    by true true f g =
        let k : integer_of v ≡ Ok (signed_digits_value 10 v) = rw (f, g) refl in
        let l : signed_digits_value 10 v ≡ z = cc in
        ap (fits 127) (sym l) ∙ g
    by true false f g = absurd (let k : is_ok (integer_of v) ≡ false = rw (f, g) refl in
        let l : is_ok (integer_of v) ≡ true = ap (λ (r : Read ℤ). is_ok r) e in cc)
    by false t f g = absurd (let k : is_ok (integer_of v) ≡ false = rw f refl in
        let l : is_ok (integer_of v) ≡ true = ap (λ (r : Read ℤ). is_ok r) e in cc)

negative_ok : (y : Symmetry) (z : ℤ) → is_negatable (scalar_as Wide) y z ≡ has_negative Wide y z
unfolding is_negatable
negative_ok General z = refl
negative_ok Symmetric z = refl
negative_ok SkewSymmetric z = by (fits 127 (neg_ℤ z)) refl
  where
    by : (t : Bool) → fits 127 (neg_ℤ z) ≡ t
        → is_ok ((scalar_as Wide).negated z) ≡ fits 127 (neg_ℤ z)
    by true e = rw e refl
    by false e = rw e refl
negative_ok Hermitian z = refl

-- each integer of 64 bits has a negative modulo 2 ^ 64
wrapping_ok : (y : Symmetry) (z : ℤ) → is_negatable (scalar_as Wrapping) y z ≡ true
unfolding is_negatable
wrapping_ok General z = refl
wrapping_ok Symmetric z = refl
wrapping_ok SkewSymmetric z = refl
wrapping_ok Hermitian z = refl

module _ (values : ValueType) (y : Symmetry) (v : List ℕ) where
  -- the value of an integer, which has a negative if the symmetry requires one
  integer_ok : is_ok_and (is_negatable (scalar_as values) y)
      (integer_of v >>= (scalar_as values).from_number)
      ≡ is_ok_and (is_value values y) (integer_of v)
  integer_ok = by values (integer_of v) refl
    where
      narrow : (z : ℤ) (t : Bool) → fits 63 z ≡ t
          → is_ok_and (is_negatable (scalar_as Wrapping) y) ((scalar_as Wrapping).from_number z)
          ≡ is_value Wrapping y z
      narrow z true f = rw f (wrapping_ok y z)
      narrow z false f = rw f refl

      by : (values : ValueType) (r : Read ℤ) → integer_of v ≡ r
          → is_ok_and (is_negatable (scalar_as values) y) (r >>= (scalar_as values).from_number)
          ≡ is_ok_and (is_value values y) r
      by Wide (Ok z) e = rw (integer_fits v z e) (negative_ok y z)
      by Wide (Err k) e = refl
      by Wrapping (Ok z) e = narrow z (fits 63 z) refl
      by Wrapping (Err k) e = refl
      by Nothing (Ok z) e = refl
      by Nothing (Err k) e = refl

-- ---- the triplets of a data line, by its words

not_skew : (h : Header) → h.field ≡ Pattern → is_allowed h ≡ true → h.symmetry ≢ SkewSymmetric
not_skew h f a s = by h.format refl
  where
    by : (format : Format) → h.format ≡ format → ⊥
    by Coordinate e = let k : is_allowed h ≡ false = rw (e, f, s) refl in cc
    by Array e = let k : is_allowed h ≡ false = rw (e, f, s) refl in cc

pattern_ok : (values : ValueType) (y : Symmetry) → y ≢ SkewSymmetric
    → is_ok_and (is_negatable (scalar_as values) y) (scalar_as values).from_pattern
    ≡ is_nothing values
unfolding is_negatable
pattern_ok Wide y n = refl
pattern_ok Wrapping y n = refl
pattern_ok Nothing General n = refl
pattern_ok Nothing Symmetric n = refl
pattern_ok Nothing SkewSymmetric n = absurd (n refl)
pattern_ok Nothing Hermitian n = refl

module _ (b : ValueType) (h : Header) where
  pub pattern_line : (row col : List ℕ) (s t : Bool) → is_index row ≡ s → is_index col ≡ t
      → h.format ≡ Coordinate → h.field ≡ Pattern → is_allowed h ≡ true
      → has_triplets b h (row ∷ col ∷ [])
      ≡ ((s && t)
      && (is_ok_and (is_lower h.symmetry) (place_of (number_of row) (number_of col)) && is_nothing b))
  unfolding has_triplets triplets_of entry_of field_value
  pattern_line row col true true i j c f a =
      rw (c, f, i, j)
      (placed_ok (scalar_as b) h.symmetry (place_of (number_of row) (number_of col))
      (scalar_as b).from_pattern
      ∙ ap (λ (x : Bool). is_ok_and (is_lower h.symmetry)
      (place_of (number_of row) (number_of col)) && x)
      (pattern_ok b h.symmetry (not_skew h f a)))
  pattern_line row col true false i j c f a = rw (c, f, i, j) refl
  pattern_line row col false t i j c f a = rw (c, f, i) refl

  module _ (row col : List ℕ) (i : is_index row ≡ true) (j : is_index col ≡ true)
      (c : h.format ≡ Coordinate) where
    pub integer_line : (v : List ℕ) → h.field ≡ Integer
        → has_triplets b h (row ∷ col ∷ v ∷ [])
        ≡ (is_ok_and (is_lower h.symmetry) (place_of (number_of row) (number_of col))
        && is_ok_and (is_value b h.symmetry) (integer_of v))
    unfolding has_triplets triplets_of entry_of field_value
    integer_line v f =
        rw (c, f, i, j)
        (placed_ok (scalar_as b) h.symmetry (place_of (number_of row) (number_of col))
        (integer_of v >>= (scalar_as b).from_number)
        ∙ ap (λ (x : Bool). is_ok_and (is_lower h.symmetry)
        (place_of (number_of row) (number_of col)) && x) (integer_ok b h.symmetry v))

    pub real_line : (v : List ℕ) → h.field ≡ Real → has_triplets b h (row ∷ col ∷ v ∷ []) ≡ false
    unfolding has_triplets triplets_of entry_of field_value
    real_line v f = rw (c, f, i, j)
        (placed_none (scalar_as b) h.symmetry (place_of (number_of row) (number_of col))
        (field_value (scalar_as b) Real (v ∷ [])) refl)

    pub complex_line : (v w : List ℕ) → h.field ≡ Complex
        → has_triplets b h (row ∷ col ∷ v ∷ w ∷ []) ≡ false
    unfolding has_triplets triplets_of entry_of field_value
    complex_line v w f = rw (c, f, i, j)
        (placed_none (scalar_as b) h.symmetry (place_of (number_of row) (number_of col))
        (field_value (scalar_as b) Complex (v ∷ w ∷ [])) refl)

  pub value_line : (v : List ℕ) → h.format ≡ Array → h.field ≡ Integer
      → has_triplets b h (v ∷ []) ≡ is_ok_and (is_value b h.symmetry) (integer_of v)
  unfolding has_triplets triplets_of entry_of field_value
  value_line v c f =
      rw (c, f)
      (placed_ok (scalar_as b) h.symmetry (Ok (1, 0)) (integer_of v >>= (scalar_as b).from_number)
      ∙ rw (low (scalar_as b) h.symmetry) (integer_ok b h.symmetry v))
