use Rattle.std.proofs.Common.{◌≡◌, take}
use Rattle.std.specs.Prelude.{filter}
use Rattle.sparse_parser.specs.InnerReading.{is_content}
use Rattle.reference_models.specs.InnerTexts.{lines_in}
use Rattle.reference_models.proofs.texts.lines.without_comments.Given as goal

abbrev pub invariant-loop-line : goal.invariant-loop-line
invariant-loop-line l = lines_in l.contents.items ≡ filter is_content
    (take l.line-index (lines_in l.lines))
