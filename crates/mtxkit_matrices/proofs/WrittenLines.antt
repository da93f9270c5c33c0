-- The words of the data lines that are written.
use Rattle.std.proofs.Common.{◌≡◌, ℕ, ℤ, List, [], ◌∷◌, ◌++◌, true, Ok, refl, sym, ap, subst, ◌∙◌}
use Rattle.std.proofs.Common.{inr}
use Rattle.std.specs.Prelude.{FitsSigned}
use Rattle.std.specs.Int.{w128}
use Rattle.std.specs.Fmt.{signed_decimal}
use Rattle.std.specs.Str.Parse.{signed_digits_value}
use Rattle.std.proofs.lemmas.List.{append-nil}
use Rattle.sparse_parser.specs.declared.header.Header.{Header}
use Rattle.sparse_parser.specs.declared.header.Format.TheVariants.{Coordinate, Array}
use Rattle.sparse_parser.specs.Grammar.{AreWords, is_number}
use Rattle.sparse_parser.specs.InnerReading.{is_content, words_of}
use Rattle.sparse_parser.specs.Meaning.{integer_of}
use Rattle.sparse_parser.proofs.NumberLaws.{integer-number}
use Rattle.sparse_parser.proofs.ContentLaws.{content_line}
use Rattle.sparse_parser.proofs.LineShapes.{entry_1, entry_3}
use Rattle.sparse_parser.proofs.WordLaws.{words_of-nil, words_of-blank, words_of-word, words_are}
use Rattle.sparse_parser.proofs.WrittenWords.{IsText, index_text, integer_text, unblank, unended}
use Rattle.sparse_parser.proofs.WrittenWords.{plain_text, not_comment}
use Rattle.sparse_market_scalar.specs.IntegerTexts.{number_text}
use Rattle.mtxkit_matrices.specs.declared.decimals.stage.Stage.TheVariants.{Entries}
use Rattle.mtxkit_matrices.specs.Decimals.{IsScaled}
use Rattle.mtxkit_matrices.specs.ScaledTexts.{IsScaledWord, IsWrittenBelow, joined}
use Rattle.mtxkit_matrices.specs.InnerRewriting.{IsLineWritten, coordinate_text}
use Rattle.mtxkit_matrices.specs.InnerRewriting.{IsCoordinateLine, IsArrayLine}
use Rattle.mtxkit_matrices.proofs.KeptLines.{not_skipped, passed_words}

-- ---- words

number_is_text : (z : ℤ) → FitsSigned w128 z → IsText (signed_decimal z)
number_is_text z f = integer_text (signed_decimal z) (number_text w128 z f).spelled

-- the decimal text of an integer of 128 bits means this integer
pub integer-means : (z : ℤ) → FitsSigned w128 z → integer_of (signed_decimal z) ≡ Ok z
unfolding integer_of
integer-means z f =
    let t = number_text w128 z f in
    let k = t.wide in
    let taken : Ok (signed_digits_value 10 (signed_decimal z)) ≡ Ok z = rw k at t.back in
    rw (t.spelled, k) taken

pub integer_is_number : (z : ℤ) → FitsSigned w128 z → is_number (signed_decimal z) ≡ true
integer_is_number z f = integer-number (signed_decimal z) (number_text w128 z f).spelled

-- ---- lines

-- a line that is neither blank nor a comment is written with these words, joined
written_below : (line written word : List ℕ) (others words : List (List ℕ))
    → words_of line ≡ word ∷ others → is_content (words_of line) ≡ true → words_of written ≡ words
    → written ≡ joined words → IsWrittenBelow line written
written_below line written word others words e content ws is = record {
  unchanged =
      λ p. absurd (not_skipped (words_of line) word others e content (passed_words line p));
  spaced = λ n. (words, subst (AreWords written) ws (words_are written), is);
}

one_word : (word : List ℕ) → IsText word → words_of word ≡ word ∷ []
one_word word h = ap words_of (sym (append-nil word))
    ∙ words_of-word word [] h.some (unblank word h.solid) tt
    ∙ ap (λ (ws : List (List ℕ)). word ∷ ws) words_of-nil

next_word : (word rest : List ℕ) → IsText word
    → words_of (word ++ (32 ∷ rest)) ≡ word ∷ words_of rest
next_word word rest h = words_of-word word (32 ∷ rest) h.some (unblank word h.solid) refl
    ∙ ap (λ (ws : List (List ℕ)). word ∷ ws) (words_of-blank 32 rest refl)

three_words : (a b d : List ℕ) → IsText a → IsText b → IsText d
    → words_of (a ++ (32 ∷ (b ++ (32 ∷ d)))) ≡ a ∷ b ∷ d ∷ []
three_words a b d h k l = next_word a (b ++ (32 ∷ d)) h
    ∙ ap (λ (ws : List (List ℕ)). a ∷ ws) (next_word b d k)
    ∙ ap (λ (ws : List (List ℕ)). a ∷ b ∷ ws) (one_word d l)

scaled_word : (scale : ℕ) (value : List ℕ) (z : ℤ) → IsScaled scale value z → FitsSigned w128 z
    → IsScaledWord scale value (signed_decimal z)
scaled_word scale value z s f =
    record { number = z; scaled = s; fits = f; is = refl; means = integer-means z f }

-- a data line in coordinate format
pub coordinate_line : {scale : ℕ} (h : Header) (line : List ℕ) {old new : List ℕ}
    → h.format ≡ Coordinate → is_content (words_of line) ≡ true
    → IsCoordinateLine scale (words_of line) old new
    → IsLineWritten scale (Entries h) line (Entries h) old new
coordinate_line h line f content l =
    let r = index_text l.row l.row_is in
    let c = index_text l.col l.col_is in
    let text = signed_decimal l.number in
    let v = number_is_text l.number l.fits in
    let ws = three_words l.row l.col text r c v in
    record {
      written = coordinate_text l.row l.col l.number;
      appended = l.appended;
      plain = unended l.row _ r.solid
          (refl, unended l.col _ c.solid (refl, plain_text text v.solid));
      kept = written_below line _ l.row _ _ l.words_are content ws refl;
      step = inr (
        content,
        rw ws (content_line l.row _ (not_comment l.row r)),
        refl,
        rw l.words_are (entry_3 l.row l.col l.value l.row_is l.col_is l.value_is),
        rw ws (entry_3 l.row l.col text l.row_is l.col_is (integer_is_number l.number l.fits)),
        rw (f, l.words_are, ws)
            (refl, refl, scaled_word _ l.value l.number l.scaled l.fits),
      );
    }

-- a data line in array format
pub array_line : {scale : ℕ} (h : Header) (line : List ℕ) {old new : List ℕ}
    → h.format ≡ Array → is_content (words_of line) ≡ true
    → IsArrayLine scale (words_of line) old new
    → IsLineWritten scale (Entries h) line (Entries h) old new
array_line h line f content l =
    let text = signed_decimal l.number in
    let v = number_is_text l.number l.fits in
    let ws = one_word text v in
    record {
      written = text;
      appended = l.appended;
      plain = plain_text text v.solid;
      kept = written_below line _ l.value _ _ l.words_are content ws refl;
      step = inr (
        content,
        rw ws (content_line text [] (not_comment text v)),
        refl,
        rw l.words_are (entry_1 l.value l.value_is),
        rw ws (entry_1 text (integer_is_number l.number l.fits)),
        rw (f, l.words_are, ws) (scaled_word _ l.value l.number l.scaled l.fits),
      );
    }
