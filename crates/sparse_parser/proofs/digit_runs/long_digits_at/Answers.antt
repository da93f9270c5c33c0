use Rattle.std.proofs.Common.{arith}
use Rattle.sparse_parser.proofs.Runs.{first_read}
use Rattle.sparse_parser.proofs.digit_runs.long_digits_at.Goals as goal

pub returns-then-count-le-SHORT-clause-read : goal.returns-then-count-le-SHORT-clause-read
returns-then-count-le-SHORT-clause-read c =
    first_read 24 c.args.text.now c.text_from-rest.result.now c.split_at.result.0.now c.args.from
    _ _
    c.requires c.text_from-rest.ensures c.split_at.ensures.front c.read_digits-count.ensures.end
    (omega arith) (omega arith) c.read_digits-count.ensures.value
