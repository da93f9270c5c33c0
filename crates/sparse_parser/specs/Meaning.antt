-- The meaning of a Matrix Market text for a scalar type: a list of triplets, or the first error.
use Rattle.std.specs.Prelude.{◌≡◌, ℕ, ℤ, ◌-◌, ◌^◌, Bool, true, false, ◌||◌, ◌&&◌, ◌==◌, nat_lt}
use Rattle.std.specs.Prelude.{List, [], ◌∷◌, ◌++◌, length, map, drop, slice_get, Option, Some, None}
use Rattle.std.specs.Prelude.{Ok, Err, if◌then◌else◌, ◌⊎◌}
use Rattle.std.specs.List.{list_all}
use Rattle.std.specs.Str.Parse.{digits_value, signed_digits_value}
use Rattle.sparse_pattern.specs.declared.error.SparseFormatErrorKind.TheVariants.{IndexOutOfBounds}
use Rattle.sparse_coo_dense.specs.Coo.{Coo, coo_of}
use Rattle.sparse_parser.specs.declared.error.MatrixMarketErrorKind.TheVariants.{ParsingError}
use Rattle.sparse_parser.specs.declared.error.MatrixMarketErrorKind.TheVariants.{InvalidHeader}
use Rattle.sparse_parser.specs.declared.error.MatrixMarketErrorKind.TheVariants.{EntryMismatch}
use Rattle.sparse_parser.specs.declared.error.MatrixMarketErrorKind.TheVariants.{TypeMismatch}
use Rattle.sparse_parser.specs.declared.error.MatrixMarketErrorKind.TheVariants.{ZeroError}
use Rattle.sparse_parser.specs.declared.error.MatrixMarketErrorKind.TheVariants.{SparseFormatError}
use Rattle.sparse_parser.specs.declared.error.MatrixMarketErrorKind.TheVariants.{DiagonalError}
use Rattle.sparse_parser.specs.declared.error.MatrixMarketErrorKind.TheVariants.{NotLowerTriangle}
use Rattle.sparse_parser.specs.declared.error.MatrixMarketErrorKind.TheVariants.{NonSquare}
use Rattle.sparse_parser.specs.declared.header.Format.{Format}
use Rattle.sparse_parser.specs.declared.header.Format.TheVariants.{Coordinate, Array}
use Rattle.sparse_parser.specs.declared.header.Field.{Field}
use Rattle.sparse_parser.specs.declared.header.Field.TheVariants.{Real, Complex, Integer, Pattern}
use Rattle.sparse_parser.specs.declared.header.Symmetry.{Symmetry}
use Rattle.sparse_parser.specs.declared.header.Symmetry.TheVariants.{General, Symmetric}
use Rattle.sparse_parser.specs.declared.header.Symmetry.TheVariants.{SkewSymmetric, Hermitian}
use Rattle.sparse_parser.specs.declared.header.Header.{Header}
use Rattle.sparse_parser.specs.Header.{is_allowed}
use Rattle.sparse_parser.specs.Grammar.{is_index, is_integer, IsDocument}
use Rattle.sparse_parser.specs.Reads.{Read, ◌>>=◌}
use Rattle.sparse_parser.specs.Scalars.{Scalar, fits}
use Rattle.sparse_parser.specs.ArrayPlaces.{places_of, array_count}

-- the value of an index, if it fits in usize
unfoldable pub number_of : List ℕ → Read ℕ
number_of word =
    if nat_lt (digits_value 10 word) (2 ^ 64) then Ok (digits_value 10 word) else Err ParsingError

-- the value of an integer, if it fits in i128
unfoldable pub integer_of : List ℕ → Read ℤ
integer_of word =
    let z = signed_digits_value 10 word in
    if is_integer word && fits 127 z then Ok z else Err ParsingError

-- the row and the column counted from 0, given those of the text, which count from 1; 0 is an error
unfoldable pub place_of : Read ℕ → Read ℕ → Read (ℕ × ℕ)
place_of row col = do
  r ← row
  c ← col
  if (r == 0) || (c == 0) then Err ZeroError else Ok (r - 1, c - 1)

-- the number of words is that of a value of the field
abbrev pub is_of_field : Field → List (List ℕ) → Bool
is_of_field Integer (v ∷ []) = true
is_of_field Real (v ∷ []) = true
is_of_field Complex (v ∷ w ∷ []) = true
is_of_field Pattern [] = true
is_of_field field words = false

-- ---- sizes

-- the numbers of rows and columns, and the number of data lines if it fits in usize
abbrev pub Sizes : Type 0
Sizes = ℕ × ℕ × Option ℕ

unfoldable pub within_usize : ℕ → Option ℕ
within_usize n = if nat_lt n (2 ^ 64) then Some n else None

-- the sizes that the numbers of a size line give
unfoldable pub numbers_of_size : Format → Symmetry → List (List ℕ) → Read Sizes
numbers_of_size Coordinate s (rows ∷ cols ∷ count ∷ []) = do
  r ← number_of rows
  c ← number_of cols
  n ← number_of count
  Ok (r, c, Some n)
numbers_of_size Array s (rows ∷ cols ∷ []) = do
  r ← number_of rows
  c ← number_of cols
  Ok (r, c, within_usize (array_count s r c))
numbers_of_size format s words = Err ParsingError

-- a matrix with a symmetry is square
abbrev pub is_fitting : Symmetry → ℕ → ℕ → Bool
is_fitting General rows cols = true
is_fitting Symmetric rows cols = rows == cols
is_fitting SkewSymmetric rows cols = rows == cols
is_fitting Hermitian rows cols = rows == cols

abbrev pub fitting : Symmetry → Sizes → Read Sizes
fitting y s = if is_fitting y s.0 s.1 then Ok s else Err NonSquare

-- checks the header, then the numbers of the size line, then that a matrix with a symmetry is
-- square
unfoldable pub sizes_of : Header → List (List ℕ) → Read Sizes
sizes_of h words =
    if is_allowed h then (numbers_of_size h.format h.symmetry words >>= fitting h.symmetry)
    else Err InvalidHeader

-- the number of data lines is the one that the size line gives
abbrev pub is_count : Option ℕ → ℕ → Bool
is_count (Some n) lines = lines == n
is_count None lines = false

-- ---- entries

-- a row, a column and a value
abbrev pub Triplet : Type 0 → Type 0
Triplet V = ℕ × ℕ × V

module _ (S : Scalar) where
  -- the value of an entry of this field with these words
  unfoldable pub field_value : Field → List (List ℕ) → Read S.Value
  field_value Integer (word ∷ words) = integer_of word >>= S.from_number
  field_value Pattern words = S.from_pattern
  field_value field words = Err TypeMismatch

  abbrev pub placed : Read (ℕ × ℕ) → Read S.Value → Read (Triplet S.Value)
  placed place value = do
    p ← place
    v ← value
    Ok (p.0, p.1, v)

  -- the entry of a data line; `at` is the row and column of an array's entry
  unfoldable pub entry_of : Format → Field → Option (ℕ × ℕ) → List (List ℕ)
      → Read (Triplet S.Value)
  entry_of Coordinate field at (row ∷ col ∷ words) =
      if is_index row && is_index col && is_of_field field words
      then placed (place_of (number_of row) (number_of col)) (field_value field words)
      else Err ParsingError
  entry_of Array field (Some p) words =
      if is_of_field field words then placed (Ok p) (field_value field words) else Err ParsingError
  entry_of format field at words = Err ParsingError

  -- an entry, followed by the mirrored one if the symmetry implies one
  unfoldable pub mirrored : Symmetry → Triplet S.Value → Read (List (Triplet S.Value))
  mirrored General t = Ok (t ∷ [])
  mirrored SkewSymmetric t =
      if nat_lt t.0 t.1 then Err NotLowerTriangle
      else if t.0 == t.1 then Err DiagonalError
      else (S.negated t.2 >>= λ v. Ok (t ∷ (t.1, t.0, v) ∷ []))
  mirrored y t =
      if nat_lt t.0 t.1 then Err NotLowerTriangle
      else if t.0 == t.1 then Ok (t ∷ [])
      else Ok (t ∷ (t.1, t.0, t.2) ∷ [])

  -- the triplets of a data line
  unfoldable pub triplets_of : Header → Option (ℕ × ℕ) → List (List ℕ)
      → Read (List (Triplet S.Value))
  triplets_of h at words = entry_of h.format h.field at words >>= mirrored h.symmetry

  -- the triplets of data lines; `places` has the rows and columns of an array's entries
  unfoldable pub triplets_of_lines : Header → List (ℕ × ℕ) → List (List (List ℕ))
      → Read (List (Triplet S.Value))
  triplets_of_lines h places [] = Ok []
  triplets_of_lines h places (words ∷ lines) = do
    first ← triplets_of h (slice_get places 0) words
    others ← triplets_of_lines h (drop 1 places) lines
    Ok (first ++ others)

  abbrev pub is_inside : ℕ → ℕ → Triplet S.Value → Bool
  is_inside rows cols t = nat_lt t.0 rows && nat_lt t.1 cols

  -- the matrix, if all triplets lie within the shape
  abbrev pub inside_of : Sizes → List (Triplet S.Value) → Read (Coo S.Value)
  inside_of s ts =
      if list_all (is_inside s.0 s.1) ts then Ok (coo_of s.0 s.1 ts)
      else Err (SparseFormatError IndexOutOfBounds)

  -- the matrix, after these checks: the number of data lines, each entry in order, then the bounds
  unfoldable pub listed_of : Header → Sizes → List (List (List ℕ)) → Read (Coo S.Value)
  listed_of h s lines =
      if is_count s.2 (length lines)
      then (triplets_of_lines h (places_of h.format h.symmetry s.0 s.1) lines >>= inside_of s)
      else Err EntryMismatch

  -- the matrix of a header, a size line and data lines
  unfoldable pub matrix_of : Header → List (List ℕ) → List (List (List ℕ)) → Read (Coo S.Value)
  matrix_of h size lines = sizes_of h size >>= λ s. listed_of h s lines

  -- the meaning of a text; a text that is not a document means a parsing error
  abbrev pub Means : List ℕ → Read (Coo S.Value) → Type 0
  Means text r = (((header : Header) (size : List (List ℕ)) (lines : List (List (List ℕ)))
      → IsDocument text header size lines → ⊥) × (r ≡ Err ParsingError))
      ⊎ ((header : Header) × (size : List (List ℕ)) × (lines : List (List (List ℕ)))
      × IsDocument text header size lines × (r ≡ matrix_of header size lines))

-- a matrix with its scalars replaced by their values in contracts
module _ {T V : Type 0} (value : T → V) where
  abbrev pub value_triplet : Triplet T → Triplet V
  value_triplet t = (t.0, t.1, value t.2)

  abbrev pub values_of : Coo T → Coo V
  values_of m = coo_of m.nrows m.ncols (map value_triplet m.triplets)
