-- The words of a line, which are those of a data line or of none.
use Rattle.std.proofs.Common.{◌≡◌, ℕ, Bool, true, false, List, [], ◌∷◌, Option, refl, sym, ap, ◌∙◌}
use Rattle.std.proofs.Common.{append-nil}
use Rattle.std.specs.Prelude.{◌&&◌, nat_lt, if◌then◌else◌}
use Rattle.sparse_parser.specs.declared.data_lines.NumberKind.{NumberKind}
use Rattle.sparse_parser.specs.Bytes.{leading}
use Rattle.sparse_parser.specs.InnerBytes.{is_within_line}
use Rattle.sparse_parser.specs.Grammar.{IsOneLine, is_entry, is_index}
use Rattle.sparse_parser.specs.InnerLines.{IsNumberOf, is_plain}
use Rattle.sparse_parser.specs.InnerReading.{line_words, words_of}
use Rattle.sparse_parser.specs.Meaning.{number_of, place_of}
use Rattle.sparse_parser.proofs.LeadingBytes.{Passes, leading-append}
use Rattle.sparse_faults.specs.declared.line_faults.Search.{Search}
use Rattle.sparse_faults.specs.InnerFirstFaults.{is_err_or, is_within, passes}

-- ---- the words of a line

within_line : (line : List ℕ) → IsOneLine line → Passes is_within_line line
within_line [] h = tt
within_line (b ∷ line) h = (rw h.0 refl, within_line line h.1)

line_words_are : (line : List ℕ) → IsOneLine line → line_words line ≡ words_of line
unfolding line_words
line_words_are line h = ap words_of (ap (leading is_within_line) (sym (append-nil line))
    ∙ leading-append is_within_line line [] (within_line line h) tt)

pub entry_passes : (search : Search) (line : List ℕ) (words : List (List ℕ)) (passed : Bool)
    → IsOneLine line → line_words line ≡ words → is_entry words ≡ true → passed ≡ passes search words
    → passed ≡ (is_entry (words_of line) && passes search (words_of line))
entry_passes search line words passed plain e is p =
    let w : words_of line ≡ words = sym (line_words_are line plain) ∙ e in
    rw (w, is) p

pub no_entry : (search : Search) (line : List ℕ) → IsOneLine line → is_entry (line_words line) ≡ false
    → false ≡ (is_entry (words_of line) && passes search (words_of line))
no_entry search line plain e =
    let w : is_entry (words_of line) ≡ false = ap is_entry (sym (line_words_are line plain)) ∙ e in
    rw w refl

-- ---- indices

pub index_is : {word : List ℕ} {digits : Option ℕ} {kind : NumberKind} {t : Bool}
    → IsNumberOf word digits kind → is_plain kind ≡ t → is_index word ≡ t
index_is is e = is.index ∙ e

-- the bounds of two words, of which each is an index or none
pub within_pair : (rows cols : ℕ) (row col : List ℕ) (words : List (List ℕ)) (s t : Bool)
    → is_index row ≡ s → is_index col ≡ t
    → is_within rows cols (row ∷ col ∷ words)
    ≡ (if s && t then is_err_or (λ p. nat_lt p.0 rows && nat_lt p.1 cols)
    (place_of (number_of row) (number_of col)) else true)
unfolding is_within
within_pair rows cols row col words s t i j = rw (i, j) refl
