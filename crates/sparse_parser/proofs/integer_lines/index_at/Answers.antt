use Rattle.std.proofs.Common.{◌≢◌, length, length-drop, drop, sym, ◌∙◌, arith}
use Rattle.sparse_parser.proofs.IntegerLaws.{index_and_blank}
use Rattle.sparse_parser.proofs.integer_lines.index_at.Goals as goal

pub returns-then-is_blank-clause-index : goal.returns-then-is_blank-clause-index
returns-then-is_blank-clause-index c =
    let some : length (drop c.digits_at-number.result.1 c.args.text.now)
    ≢ length (drop c.args.from c.args.text.now) =
    omega (
      arith,
      length-drop c.digits_at-number.result.1 c.args.text.now,
      length-drop c.args.from c.args.text.now,
    ) in
    index_and_blank c.args.text.now _ _ c.digits_at-number.result.1 c.if-end-text.true
    (sym c.is_blank.ensures ∙ c.if-is_blank.true) c.digits_at-number.ensures.read some
