use Rattle.std.proofs.Common.{◌≢◌, length, length-drop, drop, arith}
use Rattle.sparse_parser.proofs.IntegerLaws.{index_and_end}
use Rattle.sparse_parser.proofs.integer_lines.last_index.Goals as goal

pub returns-then-text-end-eq10-clause-index : goal.returns-then-text-end-eq10-clause-index
returns-then-text-end-eq10-clause-index c =
    let end = c.digits_at-number.result.1 in
    let some : length (drop end c.args.text.now) ≢ length (drop c.args.from c.args.text.now) =
    omega (arith, length-drop end c.args.text.now, length-drop c.args.from c.args.text.now) in
    index_and_end c.args.text.now _ _ end (omega arith) c.if-text-end-eq10.true
    c.digits_at-number.ensures.read some

pub returns-clause-index : goal.returns-clause-index
returns-clause-index c = record {
  behind = drop c.spaced_index_at-number.result.1 c.args.text.now;
  at = c.spaced_index_at-number.ensures.index c.if-behind-from.false;
  line = c.in_ok-end.ensures.line;
}
