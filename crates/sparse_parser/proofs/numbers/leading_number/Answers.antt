use Rattle.std.proofs.Common.{◌≡◌, [], drop, length-drop, inl, inr, sym, ◌∙◌, arith}
use Rattle.std.specs.Char.{is_ascii_digit}
use Rattle.sparse_parser.specs.Bytes.{leading}
use Rattle.sparse_parser.proofs.LeadingBytes.{after-none}
use Rattle.sparse_parser.proofs.numbers.leading_number.Goals as goal

pub returns-clause-rest : goal.returns-clause-rest
returns-clause-rest c =
    let text = c.args.text.now in
    let end = c.first_digits_at-number.result.1 in
    let none : leading is_ascii_digit (drop end text) ≡ [] =
    elim c.first_digits_at-number.ensures.stopped [
      | inl e ↦ e
      | inr e ↦ absurd (c.if-end-eq-SHORT.false (omega (arith, length-drop end text)))
    ] in
    c.text_from-rest.ensures ∙ sym (after-none is_ascii_digit (drop end text) none)
    ∙ c.first_digits_at-number.ensures.read.others
