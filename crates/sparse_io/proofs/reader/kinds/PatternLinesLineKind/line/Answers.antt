use Rattle.std.proofs.Common.{length-drop, map, ap, sym, ◌∙◌, arith}
use Rattle.sparse_parser.specs.Reads.{read_as}
use Rattle.sparse_parser.specs.Meaning.{value_triplet}
use Rattle.sparse_io.specs.InnerEntries.{both_of}
use Rattle.sparse_io.proofs.IntegerEntries.{pattern_meant}
use Rattle.sparse_io.proofs.LineRuns.{line_is_read}
use Rattle.sparse_io.proofs.reader.kinds.PatternLinesLineKind.line.Goals as goal

pub returns-in-Ok-clause-read : goal.returns-in-Ok-clause-read
returns-in-Ok-clause-read g c =
    line_is_read g.T.MatrixMarketScalar.scalar c.args.header
    (pattern_meant g.T.MatrixMarketScalar.scalar c.args.header c.requires.kind.0 c.requires.kind.1
    c.in_ok-row.ensures.line
    (sym (ap (λ r. read_as (λ t. map (λ t. value_triplet g.T.MatrixMarketScalar.value t)
    (both_of t)) r) c.in-Ok.is) ∙ c.pattern_triplets.ensures))
    c.next_line_at.ensures.begins c.next_line_at.ensures.same
    (omega (
      arith,
      length-drop c.in_ok-row.end c.args.text.now,
      length-drop c.next_line_at.result c.args.text.now,
    ))
