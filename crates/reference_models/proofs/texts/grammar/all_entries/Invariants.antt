use Rattle.std.proofs.Common.{◌≡◌, drop}
use Rattle.std.specs.List.{list_all}
use Rattle.sparse_parser.specs.Grammar.{is_entry}
use Rattle.reference_models.specs.InnerTexts.{lines_in}
use Rattle.reference_models.proofs.texts.grammar.all_entries.Given as goal

abbrev pub invariant-loop-line : goal.invariant-loop-line
invariant-loop-line l =
    list_all is_entry (drop l.line-index (lines_in l.lines)) ≡ list_all is_entry (lines_in l.lines)
