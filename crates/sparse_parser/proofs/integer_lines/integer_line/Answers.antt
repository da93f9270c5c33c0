use Rattle.std.proofs.Common.{drop, rules}
use Rattle.sparse_parser.specs.InnerIntegers.{IsIntegerLine}
use Rattle.sparse_parser.proofs.IntegerLaws.{integer_line_is}
use Rattle.sparse_parser.proofs.integer_lines.integer_line.Goals as goal

pub returns-clause-line : goal.returns-clause-line
returns-clause-line c =
    let h : IsIntegerLine (drop c.args.from c.args.text.now) c.in_ok-row.row c.in_ok-col.col
    c.in_ok-value.value (drop c.in_ok-value.end c.args.text.now) =
    integer_line_is _ _ _ _ _ _ _ c.in_ok-row.ensures.index c.in_ok-col.ensures.index
    c.in_ok-value.ensures.line in
    search (rules, h)
