-- A chain of conversions keeps the plain matrix.
use Rattle.std.proofs.Common.{◌≡◌, List, [], ◌∷◌, ap, sym, subst, ◌∙◌}
use Rattle.sparse_algebra.specs.Algebra.{CommRing}
use Rattle.sparse_algebra.specs.Plain.{plain_transpose}
use Rattle.sparse_coo_dense.specs.CooPlain.{plain_of_coo}
use Rattle.sparse_compressed.proofs.MatrixTransposes.{plain_transposed}
use Rattle.sparse_convert.specs.OneMatrix.{Representation, Triplets, Rows, Cols}
use Rattle.sparse_convert.specs.OneMatrix.{IsSoundRepresentation, plain_of_representation}
use Rattle.sparse_convert.specs.OneMatrix.{IsConverted, ConvertsThrough, ConvertsTo}
use Rattle.sparse_convert.proofs.MatrixLists.{columns-list}

module _ (R : CommRing) {T : Type 0} (f : T → R.Carrier) (z : T) where
  -- one conversion
  converted_same : (x y : Representation T) → IsSoundRepresentation x → IsSoundRepresentation y
      → IsConverted R f x y
      → plain_of_representation R f y ≡ plain_of_representation R f x
  converted_same (Triplets a) (Triplets b) sx sy h = absurd h
  converted_same (Triplets a) (Rows m) sx sy h = h
  converted_same (Triplets a) (Cols n) sx sy h = h
  converted_same (Rows m) (Triplets a) sx sy h = ap (plain_of_coo R f) h
  converted_same (Rows m) (Rows n) sx sy h = absurd h
  converted_same (Rows m) (Cols n) sx sy h =
      ap (plain_transpose R) (plain_transposed R f z m n sx sy h)
  converted_same (Cols n) (Triplets a) sx sy h = ap (plain_of_coo R f) h ∙ columns-list R f n
  converted_same (Cols n) (Rows m) sx sy h = plain_transposed R f z n m sx sy h
  converted_same (Cols m) (Cols n) sx sy h = absurd h

  -- a chain of conversions
  ConvertsThrough-same : (x : Representation T) (ys : List (Representation T)) (y : Representation T)
      → IsSoundRepresentation x → ConvertsThrough R f x ys y
      → (plain_of_representation R f y ≡ plain_of_representation R f x) × IsSoundRepresentation y
  ConvertsThrough-same x [] y sound h = (
    ap (plain_of_representation R f) (sym h),
    subst IsSoundRepresentation h sound,
  )
  ConvertsThrough-same x (w ∷ ws) y sound h =
      let rest = ConvertsThrough-same w ws y h.0 h.2 in
      (rest.0 ∙ converted_same x w sound h.0 h.1, rest.1)

  pub ConvertsTo-same : (x y : Representation T) → IsSoundRepresentation x → ConvertsTo R f x y
      → plain_of_representation R f y ≡ plain_of_representation R f x
  ConvertsTo-same x y sound h = (ConvertsThrough-same x h.0 y sound h.1).0

  pub ConvertsTo-sound : (x y : Representation T) → IsSoundRepresentation x → ConvertsTo R f x y
      → IsSoundRepresentation y
  ConvertsTo-sound x y sound h = (ConvertsThrough-same x h.0 y sound h.1).1
