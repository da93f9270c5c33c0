use Rattle.std.proofs.Common.{◌≢◌, length, length-drop, drop, sym, ap, ◌∙◌, arith}
use Rattle.sparse_parser.specs.InnerLines.{ends_word}
use Rattle.sparse_parser.proofs.IntegerLaws.{index_at}
use Rattle.sparse_parser.proofs.integer_lines.spaced_index_at.Goals as goal

pub returns-clause-index : goal.returns-clause-index
returns-clause-index c =
    let some : length (drop c.digits_at-number.result.1 c.args.text.now)
    ≢ length (drop c.skip_blanks-start.result c.args.text.now) =
    omega (
      arith,
      length-drop c.digits_at-number.result.1 c.args.text.now,
      length-drop c.skip_blanks-start.result c.args.text.now,
    ) in
    λ _. index_at _ _ _ _ c.skip_blanks-start.ensures.rest c.digits_at-number.ensures.read some
    (ap ends_word (sym c.text_from.ensures) ∙ sym c.ends_word.ensures ∙ c.if-not-ends_word.false)
