use Rattle.std.proofs.Common.{sym, ap, ◌∙◌}
use Rattle.sparse_parser.specs.InnerReading.{ends_line}
use Rattle.sparse_parser.proofs.FirstWord.{line_ends}
use Rattle.sparse_parser.proofs.integer_lines.line_end.Goals as goal

pub returns-then-ends_line-clause-line : goal.returns-then-ends_line-clause-line
returns-then-ends_line-clause-line c =
    let e = line_ends _ _ c.skip_blanks-end.ensures.rest
    (ap ends_line (sym c.text_from.ensures) ∙ sym c.ends_line.ensures ∙ c.if-ends_line.true) in
    record { none = e.0; line = e.1 }
