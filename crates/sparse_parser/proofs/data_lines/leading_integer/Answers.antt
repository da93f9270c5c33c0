use Rattle.std.proofs.Common.{ℕ, ◌-◌, List, ap, take, sym, ◌∙◌, inl, inr, length, subst}
use Rattle.sparse_parser.specs.Bytes.{leading}
use Rattle.sparse_parser.specs.InnerBytes.{is_solid}
use Rattle.sparse_parser.specs.Grammar.{is_integer}
use Rattle.sparse_parser.specs.InnerLines.{IsNumberOf}
use Rattle.sparse_parser.proofs.EntryLaws.{value_word-is}
use Rattle.sparse_parser.proofs.FirstWord.{word-after_blanks}
use Rattle.sparse_parser.proofs.IntegerWords.{AreDigits, no_integer, integer_word, plain_number}
use Rattle.sparse_parser.proofs.IntegerWords.{signed_number}
use Rattle.sparse_parser.proofs.data_lines.leading_integer.Goals as goal
use Rattle.sparse_parser.proofs.data_lines.leading_integer.Goals.{then-rest-unsigned-via-then-rest-unsigned}
use Rattle.sparse_parser.proofs.data_lines.leading_integer.Goals.{then-rest-unsigned-via-else-rest-unsigned+then-not-ends_word}
use Rattle.sparse_parser.proofs.data_lines.leading_integer.Goals.{then-unsigned-text}
use Rattle.sparse_parser.proofs.data_lines.leading_integer.Goals.{else-unsigned-text}

pub returns-then-rest-unsigned : goal.returns-then-rest-unsigned
returns-then-rest-unsigned c =
    ap (λ (t : List ℕ). is_integer (leading is_solid t)) (sym c.after_blanks-text.ensures)
    ∙ no_integer c.after_blanks-text.result.now _ _ c.after_sign-unsigned.ensures
    c.leading_number-digits.ensures.rest (elim c.then-rest-unsigned.branch [
      | then-rest-unsigned-via-then-rest-unsigned w ↦ inl w.if-rest-unsigned.true
      | then-rest-unsigned-via-else-rest-unsigned+then-not-ends_word w ↦ inr
          (sym w.ends_word.ensures ∙ w.if-not-ends_word.true)
    ])

pub slice_bounds-word-count : goal.slice_bounds-word-count
slice_bounds-word-count c = (value_word-is c.after_blanks-text.result.now _ _
    c.after_sign-unsigned.ensures c.leading_number-digits.ensures.rest).0

pub returns : goal.returns
returns c =
    let d : AreDigits c.after_blanks-text.result.now c.after_sign-unsigned.result.now
    c.leading_number-digits.result.1.now _ c.leading_number-digits.result.0 = record {
      unsigned_is = c.after_sign-unsigned.ensures;
      rest_is = c.leading_number-digits.ensures.rest;
      some = c.if-rest-unsigned.false;
      ends = sym c.ends_word.ensures ∙ c.if-not-ends_word.false;
      word_is = (value_word-is c.after_blanks-text.result.now _ _ c.after_sign-unsigned.ensures
          c.leading_number-digits.ensures.rest).1;
      number = c.leading_number-digits.ensures.number;
    } in (
      elim c.if-unsigned-text.branch [
        | then-unsigned-text w ↦ subst (λ k. IsNumberOf
            (take (length c.after_blanks-text.result.now - length
            c.leading_number-digits.result.1.now) c.after_blanks-text.result.now)
            c.leading_number-digits.result.0 k) (sym w.kind-is)
            (plain_number _ _ _ _ _ d w.if-unsigned-text.true)
        | else-unsigned-text w ↦ subst (λ k. IsNumberOf
            (take (length c.after_blanks-text.result.now - length
            c.leading_number-digits.result.1.now) c.after_blanks-text.result.now)
            c.leading_number-digits.result.0 k) (sym w.kind-is)
            (signed_number _ _ _ _ _ d w.if-unsigned-text.false)
      ],
      word-after_blanks c.args.text.now _ _ _ c.after_blanks-text.ensures
          (integer_word _ _ _ _ _ d),
    )
