use Rattle.std.proofs.Common.{refl, sym, ap, ◌∙◌}
use Rattle.sparse_parser.specs.InnerReading.{ends_line}
use Rattle.sparse_parser.proofs.IntegerLaws.{end_at}
use Rattle.sparse_parser.proofs.integer_lines.number_end.Goals as goal

pub returns-then-ends_line-clause-line : goal.returns-then-ends_line-clause-line
returns-then-ends_line-clause-line c =
    end_at _ _ refl
    (ap ends_line (sym c.text_from-rest.ensures) ∙ sym c.ends_line.ensures ∙ c.if-ends_line.true)
