use Rattle.sparse_parser.proofs.IntegerLaws.{pattern_line_is}
use Rattle.sparse_parser.proofs.integer_lines.pattern_line.Goals as goal

pub returns-clause-line : goal.returns-clause-line
returns-clause-line c =
    let col = c.in_ok-col.ensures.index in
    pattern_line_is _ _ _ _ _ _ c.in_ok-row.ensures.index col.at col.line
