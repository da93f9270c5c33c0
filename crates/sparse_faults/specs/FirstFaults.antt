-- The first line of a text that has a fault.
use Rattle.std.specs.Prelude.{◌≡◌, ◌≢◌, ◌⊎◌, ℕ, ◌+◌, Bool, true, false, List, [], ◌∷◌, length}
use Rattle.std.specs.Prelude.{Some, None, Ok, Err, slice_get}
use Rattle.std.specs.List.{list_all}
use Rattle.sparse_coo_dense.specs.Coo.{Coo}
use Rattle.sparse_parser.specs.declared.error.MatrixMarketErrorKind.{MatrixMarketErrorKind}
use Rattle.sparse_parser.specs.declared.header.Header.{Header}
use Rattle.sparse_parser.specs.ArrayPlaces.{places_of}
use Rattle.sparse_parser.specs.Grammar.{AreLines, AreHeaded, IsDocument, is_size, is_entry}
use Rattle.sparse_parser.specs.Header.{header_of, is_allowed}
use Rattle.sparse_parser.specs.Meaning.{Means, Sizes, Triplet, sizes_of, is_count, is_inside}
use Rattle.sparse_parser.specs.Meaning.{triplets_of, triplets_of_lines}
use Rattle.sparse_parser.specs.Reads.{Read}
use Rattle.sparse_parser.specs.Scalars.{Scalar}
use Rattle.sparse_faults.specs.Lines.{HasLine, IsContent, AreBlankLines}

-- the text means a matrix, or has an error, read with values of this type
abbrev pub HasMatrix : Scalar → List ℕ → Type 0
HasMatrix S text = (matrix : Coo S.Value) × Means S text (Ok matrix)

abbrev pub HasError : Scalar → List ℕ → Type 0
HasError S text = (kind : MatrixMarketErrorKind) × Means S text (Err kind)

-- ---- lines

-- the lines have this header, and these contents below it
pub record HaveContents (lines : List (List ℕ)) (h : Header) (contents : List (List (List ℕ)))
    : Type 0 where
  pub words : List (List ℕ)
  pub headed : AreHeaded lines words contents
  pub says : header_of words ≡ Some h

-- the lines have this header, this size line and these data lines
pub record HaveEntries (lines : List (List ℕ)) (h : Header) (size : List (List ℕ))
    (read : List (List (List ℕ))) : Type 0 where
  pub contents : HaveContents lines h (size ∷ read)
  pub sized : is_size size ≡ true
  pub listed : list_all is_entry read ≡ true

-- the number of the last of these lines, or 1 if there are none
abbrev pub last_number : List (List ℕ) → ℕ
last_number [] = 1
last_number (line ∷ lines) = length lines + 1

-- ---- texts that do not match the grammar

-- the first line that is not blank has this number, and is no header
abbrev pub HasNoHeader : List ℕ → ℕ → Type 0
HasNoHeader text n = HasLine text n (λ above words.
    AreBlankLines above × (words ≢ []) × (header_of words ≡ None))

-- the first content below a header is in this line, and is no size line
abbrev pub HasNoSize : List ℕ → ℕ → Type 0
HasNoSize text n = HasLine text n (λ above words. (h : Header)
    × HaveContents above h [] × IsContent words × (is_size words ≡ false))

-- this line is the first below a size line that has contents and is no data line
abbrev pub HasNoEntry : List ℕ → ℕ → Type 0
HasNoEntry text n = HasLine text n (λ above words. (h : Header) × (size : List (List ℕ))
    × (read : List (List (List ℕ))) × HaveEntries above h size read × IsContent words
    × (is_entry words ≡ false))

-- the text ends before its header or its size line, and this is its last line
abbrev pub EndsAt : List ℕ → ℕ → Type 0
EndsAt text n = (lines : List (List ℕ)) × AreLines text lines × (n ≡ last_number lines)
    × (AreBlankLines lines ⊎ ((h : Header) × HaveContents lines h []))

-- the first line that does not match the grammar
abbrev pub IsGrammarFault : List ℕ → ℕ → Type 0
IsGrammarFault text n =
    HasNoHeader text n ⊎ (HasNoSize text n ⊎ (HasNoEntry text n ⊎ EndsAt text n))

-- ---- documents

-- the header is in this line
abbrev pub IsHeaderLine : List ℕ → Header → ℕ → Type 0
IsHeaderLine text h n =
    HasLine text n (λ above words. AreBlankLines above × (header_of words ≡ Some h))

-- the size line, with these words, is this line
abbrev pub IsSizeLine : List ℕ → Header → List (List ℕ) → ℕ → Type 0
IsSizeLine text h size n = HasLine text n (λ above words. HaveContents above h [] × (words ≡ size))

-- the sizes of the text have an error: this is the line of the size line, or that of the header if
-- its format, field and symmetry exclude each other
abbrev pub IsSizesLine : Bool → List ℕ → Header → List (List ℕ) → ℕ → Type 0
IsSizesLine true text h size n = IsSizeLine text h size n
IsSizesLine false text h size n = IsHeaderLine text h n

module _ (S : Scalar) (text : List ℕ) (n : ℕ) (h : Header) (size : List (List ℕ)) (s : Sizes) where
  -- this line is the first data line that has no triplets: those above it have the triplets `ts`
  abbrev pub HasNoTriplets : Type 0
  HasNoTriplets = HasLine text n (λ above words. (read : List (List (List ℕ)))
      × (ts : List (Triplet S.Value)) × (kind : MatrixMarketErrorKind)
      × HaveEntries above h size read × IsContent words
      × (triplets_of_lines S h (places_of h.format h.symmetry s.0 s.1) read ≡ Ok ts)
      × (triplets_of S h (slice_get (places_of h.format h.symmetry s.0 s.1) (length read)) words
      ≡ Err kind))

  -- this line is the first data line that has a triplet outside the shape
  abbrev pub IsOutside : Type 0
  IsOutside = HasLine text n (λ above words. (read : List (List (List ℕ)))
      × (ts : List (Triplet S.Value)) × (us : List (Triplet S.Value))
      × HaveEntries above h size read × IsContent words
      × (triplets_of_lines S h (places_of h.format h.symmetry s.0 s.1) read ≡ Ok ts)
      × (list_all (is_inside S s.0 s.1) ts ≡ true)
      × (triplets_of S h (slice_get (places_of h.format h.symmetry s.0 s.1) (length read)) words
      ≡ Ok us) × (list_all (is_inside S s.0 s.1) us ≡ false))

  -- all data lines have triplets
  abbrev pub HaveTriplets : List (List (List ℕ)) → Type 0
  HaveTriplets lines = (ts : List (Triplet S.Value))
      × (triplets_of_lines S h (places_of h.format h.symmetry s.0 s.1) lines ≡ Ok ts)

  -- the line of the first fault of a document with these sizes: the size line if the number of data
  -- lines is wrong, or else the first data line without triplets, or else the first one that has a
  -- triplet outside the shape
  abbrev pub IsEntryFault : List (List (List ℕ)) → Bool → Type 0
  IsEntryFault lines false = IsSizeLine text h size n
  IsEntryFault lines true = HasNoTriplets ⊎ (HaveTriplets lines × IsOutside)

-- the line of the first fault of a document, given its sizes or their error
abbrev pub IsDocumentFault : Scalar → List ℕ → ℕ → Header → List (List ℕ)
    → List (List (List ℕ)) → Read Sizes → Type 0
IsDocumentFault S text n h size lines (Err kind) = IsSizesLine (is_allowed h) text h size n
IsDocumentFault S text n h size lines (Ok s) =
    IsEntryFault S text n h size s lines (is_count s.2 (length lines))

-- the line with this number has the first fault of the text, read with values of this type
abbrev pub IsFirstFault : Scalar → List ℕ → ℕ → Type 0
IsFirstFault S text n = IsGrammarFault text n
    ⊎ ((h : Header) × (size : List (List ℕ)) × (lines : List (List (List ℕ)))
    × IsDocument text h size lines
    × IsDocumentFault S text n h size lines (sizes_of h size))
