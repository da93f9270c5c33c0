-- A text has exactly one meaning, which is `read` of it.
use Rattle.std.proofs.Common.{◌≡◌, ℕ, Bool, true, false, cond, List, [], ◌∷◌, Option, Some}
use Rattle.std.proofs.Common.{None, Err, refl, sym, ap, subst, ◌∙◌, inl, inr}
use Rattle.std.specs.Prelude.{filter}
use Rattle.std.specs.List.{list_all}
use Rattle.sparse_coo_dense.specs.Coo.{Coo}
use Rattle.sparse_parser.specs.declared.error.MatrixMarketErrorKind.TheVariants.{ParsingError}
use Rattle.sparse_parser.specs.declared.header.Header.{Header}
use Rattle.sparse_parser.specs.Header.{header_of}
use Rattle.sparse_parser.specs.Grammar.{is_size, is_entry, IsHeaded, IsDocument}
use Rattle.sparse_parser.specs.Reads.{Read}
use Rattle.sparse_parser.specs.Scalars.{Scalar}
use Rattle.sparse_parser.specs.Meaning.{matrix_of, Means}
use Rattle.sparse_parser.specs.InnerReading.{is_content, written_of, among_entries, body_of}
use Rattle.sparse_parser.specs.InnerReading.{document_of, read, judged}
use Rattle.sparse_parser.proofs.ContentLaws.{headed_lines, lines_headed}

-- the first line of the text that is not blank is the header, and the lines below have these
-- contents
pub record IsWritten (text : List ℕ) (header : Header) (contents : List (List (List ℕ))) : Type
    0 where
  pub words : List (List ℕ)
  pub others : List (List (List ℕ))
  pub lines : written_of text ≡ words ∷ others
  pub says : header_of words ≡ Some header
  pub contents_are : filter is_content others ≡ contents

pub headed_written : (text : List ℕ) (header : Header) (contents : List (List (List ℕ)))
    → IsHeaded text header contents → IsWritten text header contents
headed_written text header contents h =
    let b = headed_lines text header contents h in
    record { words = h.words; others = b.0; lines = b.1; says = h.says; contents_are = b.2 }

pub written_same : (text : List ℕ) (words : List (List ℕ)) (others : List (List (List ℕ)))
    (o : Option Header) (header : Header) (contents : List (List (List ℕ)))
    → written_of text ≡ words ∷ others → header_of words ≡ o → IsHeaded text header contents
    → (o ≡ Some header) × (filter is_content others ≡ contents)
written_same text words others o header contents e h headed =
    let w = headed_written text header contents headed in
    let l = w.lines in
    let same : words ≡ w.words = cc in
    let rest : others ≡ w.others = cc in
    (sym h ∙ ap header_of same ∙ w.says, ap (filter is_content) rest ∙ w.contents_are)

pub one_document : (text : List ℕ) (h g : Header) (s z : List (List ℕ))
    (ls ks : List (List (List ℕ)))
    → IsDocument text h s ls → IsDocument text g z ks → (h ≡ g) × (s ≡ z) × (ls ≡ ks)
one_document text h g s z ls ks a b =
    let w = headed_written text h (s ∷ ls) a.headed in
    let p = written_same text w.words w.others (Some h) g (z ∷ ks) w.lines w.says b.headed in
    let c : s ∷ ls ≡ z ∷ ks = sym w.contents_are ∙ p.1 in
    let q = p.0 in
    (cc, cc, cc)

module _ (S : Scalar) where
  contents_mean : (text : List ℕ) (words : List (List ℕ)) (others : List (List (List ℕ)))
      (header : Header) (contents : List (List (List ℕ)))
      → written_of text ≡ words ∷ others → header_of words ≡ Some header
      → filter is_content others ≡ contents → Means S text (body_of S header contents)
  unfolding body_of among_entries
  contents_mean text words others header [] e h c =
      inl (
        (λ g size lines d. absurd (let p = written_same text words others (Some header) g
            (size ∷ lines) e h d.headed in let q : [] ≡ size ∷ lines = sym c ∙ p.1 in cc)),
        refl,
      )
  contents_mean text words others header (size ∷ lines) e h c =
      by (is_size size) (list_all is_entry lines) refl refl
    where
      headed : IsHeaded text header (size ∷ lines)
      headed = subst (IsHeaded text header) c (lines_headed text words others header e h)

      by : (a b : Bool) → is_size size ≡ a → list_all is_entry lines ≡ b
          → Means S text (cond (is_size size) (among_entries lines (matrix_of S header size lines))
          (Err ParsingError))
      by true true s l = inr (
        header,
        size,
        lines,
        record { headed = headed; sized = s; listed = l },
        rw (s, l) refl,
      )
      by true false s l =
          inl (
            (λ g z ks d. absurd (let p = written_same text words others (Some header) g (z ∷ ks) e
                h d.headed in let q : size ∷ lines ≡ z ∷ ks = sym c ∙ p.1 in let same : lines ≡ ks =
                cc in let k : list_all is_entry ks ≡ false = ap (list_all is_entry) (sym same)
                ∙ l in let m = d.listed in cc)),
            rw (s, l) refl,
          )
      by false b s l =
          inl (
            (λ g z ks d. absurd (let p = written_same text words others (Some header) g (z ∷ ks) e
                h d.headed in let q : size ∷ lines ≡ z ∷ ks = sym c ∙ p.1 in let same : size ≡ z =
                cc in let k : is_size z ≡ false = ap is_size (sym same) ∙ s in let m =
                d.sized in cc)),
            rw s refl,
          )

  pub read_means : (text : List ℕ) → Means S text (read S text)
  unfolding read document_of
  read_means text = by (written_of text) refl
    where
      headed : (words : List (List ℕ)) (others : List (List (List ℕ))) (o : Option Header)
          → written_of text ≡ words ∷ others → header_of words ≡ o
          → Means S text (judged S o (filter is_content others))
      headed words others None e h =
          inl (
            (λ g size lines d. absurd (let p = written_same text words others None g (size ∷ lines)
                e h d.headed in let q = p.0 in cc)),
            refl,
          )
      headed words others (Some header) e h = contents_mean text words others header
          (filter is_content others) e h refl

      by : (lines : List (List (List ℕ))) → written_of text ≡ lines
          → Means S text (document_of S (written_of text))
      by [] e = rw e
          (inl (
            (λ g size lines d. absurd (let w = headed_written text g (size ∷ lines)
                d.headed in let k = w.lines in cc)),
            refl,
          ))
      by (words ∷ others) e = rw e (headed words others (header_of words) e refl)

  pub means_one : (text : List ℕ) (r s : Read (Coo S.Value)) → Means S text r → Means S text s
      → r ≡ s
  means_one text r s (inl (none_is, e)) (inl (other, e')) = e ∙ sym e'
  means_one text r s (inl (none_is, e)) (inr (h, size, lines, d, e')) =
      absurd (none_is h size lines d)
  means_one text r s (inr (h, size, lines, d, e)) (inl (none_is, e')) =
      absurd (none_is h size lines d)
  means_one text r s (inr (h, size, lines, d, e)) (inr (g, z, ks, d', e')) =
      let same = one_document text h g size z lines ks d d' in
      e ∙ ap (λ (x : Header). matrix_of S x size lines) same.0
      ∙ ap (λ (x : List (List ℕ)). matrix_of S g x lines) same.1 ∙ ap (matrix_of S g z) same.2
      ∙ sym e'
