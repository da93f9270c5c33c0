-- The header lines that are written.
use Rattle.std.proofs.Common.{◌≡◌, ℕ, true, false, not, List, Some, refl, ap}
use Rattle.std.specs.List.{list_all}
use Rattle.sparse_parser.specs.declared.header.Format.{Format}
use Rattle.sparse_parser.specs.declared.header.Format.TheVariants.{Coordinate, Array}
use Rattle.sparse_parser.specs.declared.header.Field.{Field}
use Rattle.sparse_parser.specs.declared.header.Field.TheVariants.{Real, Complex, Integer, Pattern}
use Rattle.sparse_parser.specs.declared.header.Header.{Header}
use Rattle.sparse_parser.specs.declared.header.Symmetry.{Symmetry}
use Rattle.sparse_parser.specs.declared.header.Symmetry.TheVariants.{General, Symmetric}
use Rattle.sparse_parser.specs.declared.header.Symmetry.TheVariants.{SkewSymmetric, Hermitian}
use Rattle.sparse_parser.specs.Bytes.{is_line_end}
use Rattle.sparse_parser.specs.Header.{header_of, is_allowed}
use Rattle.sparse_parser.specs.InnerReading.{words_of}
use Rattle.sparse_parser.proofs.WrittenWords.{test_plain}
use Rattle.mtxkit_matrices.specs.ScaledTexts.{is_decimal, with_integers, integer_head}
use Rattle.mtxkit_matrices.specs.InnerRewriting.{IsHead, integers_in}

-- a literal header line is one with its format and symmetry
pub head_at : {format : Format} {symmetry : Symmetry} (f : Format) (s : Symmetry) (line : List ℕ)
    → line ≡ integer_head (integers_in f s) → list_all (λ b. not (is_line_end b)) line ≡ true
    → header_of (words_of line) ≡ Some (integers_in f s) → is_allowed (integers_in f s) ≡ true
    → format ≡ f → symmetry ≡ s → IsHead format symmetry line
head_at f s line is plain says allowed e g = rw (e, g)
    (record { is = is; plain = test_plain line plain; says = says; allowed = allowed })

-- ---- which headers of decimal numbers are allowed

module _ (h : Header) (d : is_decimal h.field ≡ true) where
  -- if the header is allowed with the field `integer`, it is allowed
  pub decimal_allowed : is_allowed (with_integers h) ≡ true → is_allowed h ≡ true
  decimal_allowed a = by h.format h.field h.symmetry refl refl refl
    where
      by : (f : Format) (g : Field) (s : Symmetry) → h.format ≡ f → h.field ≡ g → h.symmetry ≡ s
          → is_allowed h ≡ true
      by Coordinate Real General e k l = rw (e, k, l) refl
      by Coordinate Real Symmetric e k l = rw (e, k, l) refl
      by Coordinate Real SkewSymmetric e k l = rw (e, k, l) refl
      by Coordinate Integer General e k l = rw (e, k, l) refl
      by Coordinate Integer Symmetric e k l = rw (e, k, l) refl
      by Coordinate Integer SkewSymmetric e k l = rw (e, k, l) refl
      by Array Real General e k l = rw (e, k, l) refl
      by Array Real Symmetric e k l = rw (e, k, l) refl
      by Array Real SkewSymmetric e k l = rw (e, k, l) refl
      by Array Integer General e k l = rw (e, k, l) refl
      by Array Integer Symmetric e k l = rw (e, k, l) refl
      by Array Integer SkewSymmetric e k l = rw (e, k, l) refl
      by Coordinate g Hermitian e k l =
          absurd (let x : is_allowed (with_integers h) ≡ false = rw (e, l) refl in cc)
      by Array g Hermitian e k l =
          absurd (let x : is_allowed (with_integers h) ≡ false = rw (e, l) refl in cc)
      by f Complex s e k l = absurd (let x : is_decimal h.field ≡ false = ap is_decimal k in cc)
      by f Pattern s e k l = absurd (let x : is_decimal h.field ≡ false = ap is_decimal k in cc)

  -- a header with the symmetry `hermitian` is not allowed
  pub hermitian_refused : h.symmetry ≡ Hermitian → is_allowed h ≡ false
  hermitian_refused l = by h.format h.field refl refl
    where
      by : (f : Format) (g : Field) → h.format ≡ f → h.field ≡ g → is_allowed h ≡ false
      by Coordinate Real e k = rw (e, k, l) refl
      by Coordinate Integer e k = rw (e, k, l) refl
      by Array Real e k = rw (e, k, l) refl
      by Array Integer e k = rw (e, k, l) refl
      by f Complex e k = absurd (let x : is_decimal h.field ≡ false = ap is_decimal k in cc)
      by f Pattern e k = absurd (let x : is_decimal h.field ≡ false = ap is_decimal k in cc)
