use Rattle.std.proofs.lemmas.Grind.{moves}
use Rattle.std.proofs.Common.{rules, arith}
use Rattle.sparse_io.proofs.Buffering.{IsBegun-none, IsBegun-more, IsBegun-all}
use Rattle.sparse_io.proofs.writer.save_to_matrix_market_str_with.Goals as goal

pub loop-row-init : goal.loop-row-init
loop-row-init g c = IsBegun-none (search rules) (search rules)

pub loop-row-preserved : goal.loop-row-preserved
loop-row-preserved g c = rw c.in_ok-push_triplet.ensures
    (IsBegun-more c.loop-row.invariant c.in-Some.ensures.steps)

pub returns : goal.returns
returns g c = IsBegun-all c.loop-row.invariant c.in-None.ensures.steps.0

-- ---- written by tools/answer-goals

pub push_triplet-requires-clause-col : goal.push_triplet-requires-clause-col
push_triplet-requires-clause-col g c = grind (arith, moves)

pub push_triplet-requires-clause-row : goal.push_triplet-requires-clause-row
push_triplet-requires-clause-row g c = grind (arith, moves)
