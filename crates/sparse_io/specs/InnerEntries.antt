-- The triplets of a data line, and how far a text has been read.
use Rattle.std.specs.Prelude.{◌≡◌, ◌≤◌, ℕ, zero, suc, ◌+◌, Bool, true, ◌&&◌, List, [], ◌∷◌, ◌++◌}
use Rattle.std.specs.Prelude.{length, Option, Some, None, Ok, Err, if◌then◌else◌}
use Rattle.std.specs.List.{list_all}
use Rattle.sparse_pattern.specs.declared.error.SparseFormatErrorKind.TheVariants.{IndexOutOfBounds}
use Rattle.sparse_coo_dense.specs.Coo.{Coo, coo_of}
use Rattle.sparse_parser.specs.declared.error.MatrixMarketErrorKind.TheVariants.{EntryMismatch}
use Rattle.sparse_parser.specs.declared.error.MatrixMarketErrorKind.TheVariants.{SparseFormatError}
use Rattle.sparse_parser.specs.declared.header.Format.TheVariants.{Coordinate, Array}
use Rattle.sparse_parser.specs.declared.header.Field.TheVariants.{Integer, Pattern}
use Rattle.sparse_parser.specs.declared.header.Symmetry.{Symmetry}
use Rattle.sparse_parser.specs.declared.header.Symmetry.TheVariants.{General, Symmetric}
use Rattle.sparse_parser.specs.declared.header.Symmetry.TheVariants.{SkewSymmetric}
use Rattle.sparse_parser.specs.declared.header.Header.{Header}
use Rattle.sparse_parser.specs.Bytes.{after}
use Rattle.sparse_parser.specs.InnerBytes.{is_within_line, BeginsLine}
use Rattle.sparse_parser.specs.Grammar.{is_entry}
use Rattle.sparse_parser.specs.Reads.{Read, ◌>>=◌}
use Rattle.sparse_parser.specs.Scalars.{Scalar}
use Rattle.sparse_parser.specs.Meaning.{Triplet, Sizes, placed, mirrored, triplets_of}
use Rattle.sparse_parser.specs.Meaning.{is_count, is_inside, triplets_of_lines}
use Rattle.sparse_parser.specs.InnerReading.{line_words, contents_of, among_entries}

-- an entry, and the mirrored one if it has a value
abbrev pub both_of : {T : Type 0} → (ℕ × ℕ × T) × Option T → List (ℕ × ℕ × T)
both_of (entry, None) = entry ∷ []
both_of (entry, Some value) = entry ∷ (entry.1, entry.0, value) ∷ []

-- the triplets of an entry with this row, this column and this value
abbrev pub triplets_at : (S : Scalar) → Symmetry → Read (ℕ × ℕ) → Read S.Value
    → Read (List (Triplet S.Value))
triplets_at S symmetry place value = placed S place value >>= mirrored S symmetry

-- the matrix, if the number of data lines is right and all triplets lie within the shape
abbrev pub ended_of : {V : Type 0} → Bool → Bool → Coo V → Read (Coo V)
ended_of complete inside m = if complete then if inside then Ok m else Err
    (SparseFormatError IndexOutOfBounds) else Err EntryMismatch

-- the first line of the text has these triplets or this error, and `rest` is the text from its end
-- on
pub record IsMeant (S : Scalar) (h : Header) (at : Option (ℕ × ℕ)) (text : List ℕ)
    (given : Read (List (Triplet S.Value))) (rest : List ℕ) : Type 0 where
  pub is : is_entry (line_words text) ≡ true
  pub means : given ≡ triplets_of S h at (line_words text)
  pub after_line : rest ≡ after is_within_line text

-- the first line of the text has these triplets, and `next` is the text from the next line on
pub record IsLineRead (S : Scalar) (h : Header) (at : Option (ℕ × ℕ)) (text : List ℕ)
    (given : Read (List (Triplet S.Value))) (next : List ℕ) : Type 0 where
  pub is : is_entry (line_words text) ≡ true
  pub means : given ≡ triplets_of S h at (line_words text)
  pub begins : BeginsLine next
  pub same : contents_of next ≡ contents_of (after is_within_line text)
  pub shorter : length next ≤ length (after is_within_line text)

module _ (S : Scalar) (h : Header) (s : Sizes) where
  -- the matrix of the triplets `ts` and then `us`, if all lie within the shape; `inside` says it of
  -- `ts`
  abbrev pub ending : Bool → List (Triplet S.Value) → List (Triplet S.Value) → Read (Coo S.Value)
  ending inside ts us = if inside && list_all (is_inside S s.0 s.1) us then Ok
      (coo_of s.0 s.1 (ts ++ us)) else Err (SparseFormatError IndexOutOfBounds)

  -- the final result, given the number of data lines read, whether their triplets lie within the
  -- shape, the rows and columns of the array's entries left, the triplets read and the lines left
  abbrev pub still_read : ℕ → Bool → List (ℕ × ℕ) → List (Triplet S.Value)
      → List (List (List ℕ)) → Read (Coo S.Value)
  still_read read inside places ts lines = among_entries lines
      (if is_count s.2 (read + length lines)
      then triplets_of_lines S h places lines >>= ending inside ts else Err EntryMismatch)

-- the symmetries as numbers; the hermitian one has none, since its matrices are complex
abbrev pub numbered_symmetry : ℕ → Symmetry
numbered_symmetry zero = General
numbered_symmetry (suc zero) = Symmetric
numbered_symmetry (suc (suc n)) = SkewSymmetric

-- the headers of files whose data lines are two indices and an integer, two indices, or an integer
abbrev pub HasIntegers : Header → Type 0
HasIntegers h = (h.format ≡ Coordinate) × (h.field ≡ Integer)

abbrev pub HasIndices : Header → Type 0
HasIndices h = (h.format ≡ Coordinate) × (h.field ≡ Pattern)

abbrev pub HasValues : Header → Type 0
HasValues h = (h.format ≡ Array) × (h.field ≡ Integer)

-- how far a text has been read: the number of data lines, whether their triplets lie within the
-- shape, the rows and columns of the array's entries left, the matrix, and the rest of the text
pub record Reading (V : Type 0) : Type 0 where
  pub read : ℕ
  pub inside : Bool
  pub places : List (ℕ × ℕ)
  pub matrix : Coo V
  pub text : List ℕ

abbrev pub reading : {V : Type 0} → ℕ → Bool → List (ℕ × ℕ) → Coo V → List ℕ → Reading V
reading read inside places matrix text = record {
  read = read;
  inside = inside;
  places = places;
  matrix = matrix;
  text = text;
}

-- data lines were read, and the final result is unchanged
pub record IsReadOn (S : Scalar) (h : Header) (old new : Reading S.Value) : Type 0 where
  pub begins : BeginsLine new.text
  pub shorter : length new.text ≤ length old.text
  pub room : new.read + length new.text ≤ old.read + length old.text
  pub rows : new.matrix.nrows ≡ old.matrix.nrows
  pub cols : new.matrix.ncols ≡ old.matrix.ncols
  pub same : (count : Option ℕ) → still_read S h (old.matrix.nrows, old.matrix.ncols, count)
      new.read new.inside new.places new.matrix.triplets (contents_of new.text)
      ≡ still_read S h (old.matrix.nrows, old.matrix.ncols, count)
      old.read old.inside old.places old.matrix.triplets (contents_of old.text)
