use Rattle.std.proofs.Common.{arith}
use Rattle.sparse_parser.proofs.Runs.{window_read}
use Rattle.sparse_parser.proofs.digit_runs.few_digits_at.Goals as goal

pub returns-then-end-lt12-clause-read : goal.returns-then-end-lt12-clause-read
returns-then-end-lt12-clause-read c =
    window_read c.args.text.now c.text_from-before.result.now c.split_at.result.0.now c.args.from _
    _ (omega arith) (omega arith) c.text_from-before.ensures
    c.split_at.ensures.front c.read_digits-end.ensures.end c.if-end-lt12.true
    c.read_digits-end.ensures.value
