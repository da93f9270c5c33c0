use Rattle.std.proofs.Common.{ℕ, List, sym, ap, ◌∙◌}
use Rattle.sparse_parser.specs.Bytes.{leading}
use Rattle.sparse_parser.specs.InnerBytes.{is_solid}
use Rattle.sparse_parser.specs.Grammar.{is_integer}
use Rattle.sparse_parser.proofs.FirstWord.{line_ends, starts_word, found_after_blanks}
use Rattle.sparse_parser.proofs.data_lines.next_number.Goals as goal

pub returns-then-ends_line : goal.returns-then-ends_line
returns-then-ends_line c = line_ends c.args.text.now _ c.after_blanks-text.ensures
    (sym c.ends_line.ensures ∙ c.if-ends_line.true)

pub other_number-requires-clause-start : goal.other_number-requires-clause-start
other_number-requires-clause-start c = starts_word c.args.text.now _ c.after_blanks-text.ensures
    (sym c.ends_line.ensures ∙ c.if-ends_line.false)

pub other_number-requires-clause-no_integer : goal.other_number-requires-clause-no_integer
other_number-requires-clause-no_integer c = ap (λ (t : List ℕ). is_integer (leading is_solid t))
    c.after_blanks-text.ensures ∙ c.in_default.ensures

pub returns : goal.returns
returns c = found_after_blanks c.args.text.now _ c.other_number.result c.after_blanks-text.ensures
    c.other_number.ensures
