-- The representations of a matrix, and the conversions between them.
use Rattle.std.specs.Prelude.{◌≡◌, ⊤, List, [], ◌∷◌, map}
use Rattle.sparse_algebra.specs.Algebra.{CommRing}
use Rattle.sparse_coo_dense.specs.Coo.{Coo, coo_of}
use Rattle.sparse_algebra.specs.Plain.{Plain}
use Rattle.sparse_compressed.specs.Compressed.{Compressed, IsSound, lane_triplets, transposed}
use Rattle.sparse_coo_dense.specs.CooPlain.{plain_of_coo}
use Rattle.sparse_compressed.specs.PlainOfLanes.{plain_of_rows, plain_of_cols}
use Rattle.sparse_compressed.specs.TransposedMatrix.{IsTranspose}

-- a matrix as a list of triplets, compressed by rows, or compressed by columns
pub data Representation (T : Type 0) : Type 0 where
  Triplets : Coo T → Representation T
  Rows : Compressed T → Representation T
  Cols : Compressed T → Representation T

module _ {T : Type 0} where
  -- the entries as a list, row by row and column by column
  abbrev pub coo_of_rows : Compressed T → Coo T
  coo_of_rows m = coo_of m.pattern.major_dim m.pattern.minor_dim (lane_triplets m)

  abbrev pub coo_of_cols : Compressed T → Coo T
  coo_of_cols n = coo_of n.pattern.minor_dim n.pattern.major_dim (map transposed (lane_triplets n))

  -- compressed arrays are sound
  abbrev pub IsSoundRepresentation : Representation T → Type 0
  IsSoundRepresentation (Triplets a) = ⊤
  IsSoundRepresentation (Rows m) = IsSound m
  IsSoundRepresentation (Cols n) = IsSound n

  module _ (R : CommRing) (f : T → R.Carrier) where
    -- the plain matrix that a representation describes
    abbrev pub plain_of_representation : Representation T → Plain R
    plain_of_representation (Triplets a) = plain_of_coo R f a
    plain_of_representation (Rows m) = plain_of_rows R f m
    plain_of_representation (Cols n) = plain_of_cols R f n

    -- the contract of the conversion from the first representation to the second; there is none
    -- from a representation to one of the same format
    abbrev pub IsConverted : Representation T → Representation T → Type 0
    IsConverted (Triplets a) (Triplets b) = ⊥
    IsConverted (Triplets a) (Rows m) = plain_of_rows R f m ≡ plain_of_coo R f a
    IsConverted (Triplets a) (Cols n) = plain_of_cols R f n ≡ plain_of_coo R f a
    IsConverted (Rows m) (Triplets a) = a ≡ coo_of_rows m
    IsConverted (Rows m) (Rows n) = ⊥
    IsConverted (Rows m) (Cols n) = IsTranspose m n
    IsConverted (Cols n) (Triplets a) = a ≡ coo_of_cols n
    IsConverted (Cols n) (Rows m) = IsTranspose n m
    IsConverted (Cols m) (Cols n) = ⊥

    -- x is converted to the first of the representations, that to the next, and so on; the last one
    -- is z
    abbrev pub ConvertsThrough : Representation T → List (Representation T) → Representation T → Type 0
    ConvertsThrough x [] z = x ≡ z
    ConvertsThrough x (y ∷ ys) z = IsSoundRepresentation y × IsConverted x y × ConvertsThrough y ys z

    -- z comes from x by any number of conversions, or is x
    abbrev pub ConvertsTo : Representation T → Representation T → Type 0
    ConvertsTo x z = (ys : List (Representation T)) × ConvertsThrough x ys z

    -- a list, a CSR and a CSC matrix that represent the same plain matrix
    pub record MeanOneMatrix (a : Coo T) (m n : Compressed T) : Type 0 where
      pub rows : plain_of_rows R f m ≡ plain_of_coo R f a
      pub cols : plain_of_cols R f n ≡ plain_of_coo R f a
