use Rattle.std.proofs.Common.{rules}
use Rattle.sparse_io.specs.Written.{IsRefusedWrite}
use Rattle.sparse_expr.proofs.Loading.{memory-refused}
use Rattle.sparse_expr.proofs.calculator.save.Goals as goal

pub returns-in_default : goal.returns-in_default
returns-in_default g c =
    let refused : IsRefusedWrite c.kind.result (g.W.Sink.failures c.args.out.now)
    (g.W.Sink.failures c.save_to_matrix_market.new.sink)
    (g.W.Sink.last c.save_to_matrix_market.new.sink) =
    rw c.kind.ensures c.in-Err.ensures.refused in
    record {
      none_failed = tt;
      all = tt;
      prefix = c.in-Err.ensures.prefix;
      refused = memory-refused c.kind.result _ _ _ refused c.in_default.not-IOError;
    }

-- ---- written by tools/answer-goals

pub returns-in-Ok-clause-refused : goal.returns-in-Ok-clause-refused
returns-in-Ok-clause-refused g c = search rules
