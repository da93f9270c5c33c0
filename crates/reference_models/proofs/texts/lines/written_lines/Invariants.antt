use Rattle.std.proofs.Common.{◌≡◌, take}
use Rattle.sparse_parser.specs.InnerReading.{written_lines}
use Rattle.reference_models.specs.InnerTexts.{texts, lines_in}
use Rattle.reference_models.proofs.texts.lines.written_lines.Given as goal

abbrev pub invariant-loop-line : goal.invariant-loop-line
invariant-loop-line l = lines_in l.written.items ≡ written_lines
    (take l.line-index (texts l.line-items))
