-- The header of a document is that of its first line that is not blank.
use Rattle.std.proofs.Common.{◌≡◌, ℕ, List, [], ◌∷◌, Some, refl, sym, ap, ◌∙◌}
use Rattle.sparse_parser.specs.declared.header.Header.{Header}
use Rattle.sparse_parser.specs.Bytes.{leading, after}
use Rattle.sparse_parser.specs.Grammar.{IsHeaded}
use Rattle.sparse_parser.specs.Header.{header_of}
use Rattle.sparse_parser.specs.InnerBytes.{is_space, is_within_line}
use Rattle.sparse_parser.specs.InnerReading.{words_of, written_of}
use Rattle.sparse_parser.proofs.ContentLaws.{headed_lines}
use Rattle.sparse_parser.proofs.FirstLines.{written_of-after_space, written_of-first, written_of-nil}
use Rattle.sparse_parser.proofs.LeadingBytes.{IsStopped, IsStopped-after}
use Rattle.mtxkit_texts.specs.Headers.{header_in}

-- the words of the first line that is not blank
first_words : (text start : List ℕ) → start ≡ after is_space text → IsStopped is_space start
    → (words : List (List ℕ)) (others : List (List (List ℕ))) → written_of text ≡ words ∷ others
    → words ≡ words_of (leading is_within_line start)
first_words text [] s stop words others e = absurd
    (let f : written_of text ≡ [] =
    sym (written_of-after_space text) ∙ ap written_of (sym s) ∙ written_of-nil in cc)
first_words text (b ∷ start) s stop words others e =
    let f : written_of text ≡ words_of (leading is_within_line (b ∷ start))
    ∷ written_of (after is_within_line (b ∷ start)) =
    sym (written_of-after_space text) ∙ ap written_of (sym s) ∙ written_of-first b start stop in
    cc

pub header_in-document : (text : List ℕ) (header : Header) (contents : List (List (List ℕ)))
    → IsHeaded text header contents → header_in text ≡ Some header
header_in-document text header contents h =
    let b = headed_lines text header contents h in
    ap header_of (sym (first_words text (after is_space text) refl
    (IsStopped-after is_space text) h.words b.0 b.1)) ∙ h.says
