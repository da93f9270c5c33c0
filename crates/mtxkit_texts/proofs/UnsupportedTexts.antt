-- Texts whose error is that their values are real or complex.
use Rattle.std.proofs.Common.{◌≡◌, ℕ, true, List, ◌∷◌, Option, Some, None, Err}
use Rattle.std.proofs.Common.{refl, sym, ap, ◌∙◌, inl, inr}
use Rattle.std.specs.Int.{w128}
use Rattle.sparse_market_scalar.specs.ScalarTypes.{signed_scalar}
use Rattle.sparse_parser.specs.declared.error.MatrixMarketErrorKind.{MatrixMarketErrorKind}
use Rattle.sparse_parser.specs.declared.error.MatrixMarketErrorKind.TheVariants as kinds
use Rattle.sparse_parser.specs.declared.header.Field.{Field}
use Rattle.sparse_parser.specs.declared.header.Field.TheVariants.{Real, Complex, Integer, Pattern}
use Rattle.sparse_parser.specs.declared.header.Header.{Header}
use Rattle.sparse_parser.specs.Meaning.{Means}
use Rattle.sparse_algebra.specs.declared.scalar.wide.W128.{W128}
use Rattle.sparse_compressed.specs.Compressed.{Compressed}
use Rattle.mtxkit_texts.specs.AnyField.{IsOnesFailure, IsUnsupported, MeansOnesText}
use Rattle.mtxkit_texts.specs.Faults.{IsTextFault, IsMismatch}
use Rattle.mtxkit_texts.specs.Headers.{header_in, is_supported, is_supported_field}
use Rattle.mtxkit_texts.specs.Headers.{is_pattern, is_pattern_field}
use Rattle.mtxkit_texts.specs.Loaded.{IsLoadFailure, IsWholeFailure, MeansMatrix, scalar_read}
use Rattle.mtxkit_texts.specs.Ones.{AreOnesOf, IsOnesText, with_ones}
use Rattle.mtxkit_texts.specs.declared.failure.Failure.{Failure}
use Rattle.mtxkit_texts.specs.declared.failure.Failure.TheVariants.{NotSupported}
use Rattle.mtxkit_texts.proofs.DocumentHeaders.{header_in-document}
use Rattle.mtxkit_texts.proofs.OnesTexts.{ones_document}

-- ---- such a text has real or complex values

module _ (text : List ℕ) (number n : ℕ) where
  by_field : (h : Header) (f : Field) → header_in text ≡ Some h → h.field ≡ f
      → Means (scalar_read (is_pattern_field f)) text (Err kinds.TypeMismatch)
      → IsMismatch (scalar_read (is_pattern_field f)) (is_supported_field f) number text
      (NotSupported n) → IsUnsupported text
  by_field h Real e f m is =
      record { field = ap is_supported e ∙ ap is_supported_field f; means = m }
  by_field h Complex e f m is =
      record { field = ap is_supported e ∙ ap is_supported_field f; means = m }
  by_field h Integer e f m (location, q) = absurd (let e = q.1 in cc)
  by_field h Pattern e f m (location, q) = absurd (let e = q.1 in cc)

  by_header : (h : Option Header) → header_in text ≡ h
      → Means (scalar_read (is_pattern h)) text (Err kinds.TypeMismatch)
      → IsMismatch (scalar_read (is_pattern h)) (is_supported h) number text (NotSupported n)
      → IsUnsupported text
  by_header None e m (location, q) = absurd (let e = q.1 in cc)
  by_header (Some h) e m is = by_field h h.field e refl m is

  misread : (fault : MatrixMarketErrorKind)
      → Means (scalar_read (is_pattern (header_in text))) text (Err fault)
      → IsTextFault (scalar_read (is_pattern (header_in text))) number text fault (NotSupported n)
      → IsUnsupported text
  misread kinds.ParsingError m (location, q) = absurd (let e = q.1 in cc)
  misread kinds.InvalidHeader m (location, q) = absurd (let e = q.1 in cc)
  misread kinds.EntryMismatch m (location, q) = absurd (let e = q.1 in cc)
  misread kinds.TypeMismatch m is = by_header (header_in text) refl m is
  misread kinds.ZeroError m (location, q) = absurd (let e = q.1 in cc)
  misread (kinds.SparseFormatError k) m (location, q) = absurd (let e = q.1 in cc)
  misread kinds.DiagonalError m (location, q) = absurd (let e = q.1 in cc)
  misread (kinds.IOError k) m (location, q) = absurd (let e = q.1 in cc)
  misread kinds.NotLowerTriangle m (location, q) = absurd (let e = q.1 in cc)
  misread kinds.NonSquare m (location, q) = absurd (let e = q.1 in cc)
  misread kinds.OutOfMemory m is = absurd cc

  pub not_carried : IsLoadFailure number text (NotSupported n) → IsUnsupported text
  not_carried (inl e) = absurd cc
  not_carried (inr m) = misread m.fault m.means m.is

  pub not_whole : IsWholeFailure number text (NotSupported n) → IsUnsupported text
  not_whole (inl e) = absurd cc
  not_whole (inr (inl m)) = misread m.fault m.means m.is
  not_whole (inr (inr o)) = absurd (let e = o.is in cc)

-- ---- such a text is a document, and so is its text of ones

pub ones_written : (text ones : List ℕ) → IsUnsupported text → AreOnesOf text ones
    → IsOnesText text ones
ones_written text ones u a = by u.means
  where
    by : Means (signed_scalar w128) text (Err kinds.TypeMismatch) → IsOnesText text ones
    by (inl m) = absurd (let e = m.1 in cc)
    by (inr (header, size, lines, document, e)) =
        ones_document header
        (sym (ap is_supported
        (header_in-document text header (size ∷ lines) document.headed)) ∙ u.field)
        text ones size lines document a

module _ (text ones : List ℕ) (u : IsUnsupported text) (a : AreOnesOf text ones) where
  ones_carried : IsUnsupported ones → ⊥
  ones_carried v =
      let o = ones_written text ones u a in
      let h = header_in-document ones (with_ones o.header) _ o.wrote.headed in
      let f : is_supported (header_in ones) ≡ true = rw h refl in
      let g = v.field in
      cc

  pub ones_meant : {entries : ℕ} {m : Compressed W128} → MeansMatrix ones entries m
      → MeansOnesText text entries m
  ones_meant m = record { unsupported = u; ones = ones; of = ones_written text ones u a; meant = m }

  pub ones_refused : (number : ℕ) (failure : Failure) → IsLoadFailure number ones failure
      → IsOnesFailure number text failure
  ones_refused number failure is = record {
    unsupported = u;
    ones = ones;
    of = ones_written text ones u a;
    carried = λ e. ones_carried (not_carried ones number number (rw e at is));
    is = is;
  }
