use Rattle.std.proofs.Common.{arith}
use Rattle.sparse_parser.proofs.Runs.{line_begins_at}
use Rattle.sparse_parser.proofs.lines.next_line_at.Goals as goal

pub returns-then-text-from-gt37-clause-same : goal.returns-then-text-from-gt37-clause-same
returns-then-text-from-gt37-clause-same c =
    (line_begins_at c.args.text.now c.args.from (omega arith) c.if-text-from-eq10.true
    c.if-text-from-gt37.true).0
