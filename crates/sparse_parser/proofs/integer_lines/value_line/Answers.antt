use Rattle.std.proofs.Common.{drop, ap, ◌∙◌, rules}
use Rattle.std.specs.Str.Parse.{starts_with_minus}
use Rattle.sparse_parser.specs.InnerIntegers.{IsValueLine}
use Rattle.sparse_parser.proofs.IntegerLaws.{integer_at, value_line_is}
use Rattle.sparse_parser.proofs.integer_lines.value_line.Goals as goal

pub returns-clause-line : goal.returns-clause-line
returns-clause-line c =
    let n = c.in_ok-number.ensures.number in
    let h : IsValueLine (drop c.args.from c.args.text.now) c.in_ok-value.value
    (drop c.in_ok-number.end c.args.text.now) =
    value_line_is _ _ _ _
    (integer_at _ _ _ _ c.in_ok-number.number _ _ c.skip_blanks-start.ensures.rest
    c.after_sign_at.ensures.rest n.read n.some n.word
    (c.starts_with_minus.ensures ∙ ap starts_with_minus c.text_from.ensures)
    c.in_ok-value.ensures)
    n.line in
    search (rules, h)
