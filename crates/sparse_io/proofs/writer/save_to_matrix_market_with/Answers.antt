use Rattle.std.proofs.lemmas.Grind.{common_steps, moves}
use Rattle.std.proofs.Common.{refl, sym, ◌∙◌, rules, arith}
use Rattle.std.proofs.lemmas.Result.{IfOk-equal, err_from_is_err_and}
use Rattle.sparse_io.proofs.Buffering.{IsWriting-none, IsWriting-more, IsWriting-refused}
use Rattle.sparse_io.proofs.Buffering.{IsWriting-all, on_ok-map, on_err-map}
use Rattle.sparse_io.proofs.writer.save_to_matrix_market_with.Goals as goal

pub loop-row-init : goal.loop-row-init
loop-row-init g c = record {
  unfailed = refl;
  writing = IsWriting-none (search rules) (search rules);
}

pub loop-row-preserved : goal.loop-row-preserved
loop-row-preserved g c = record {
  unfailed = c.in_ok-put_triplet.ensures.unfailed ∙ c.loop-row.invariant.unfailed;
  writing = IsWriting-more c.loop-row.invariant.writing c.in-Some.ensures.steps
      c.in_ok-put_triplet.ensures.buffered;
}

pub returns-in_err-put_triplet-clause-prefix : goal.returns-in_err-put_triplet-clause-prefix
returns-in_err-put_triplet-clause-prefix g c =
    let p = err_from_is_err_and c.from_residual-in_err-put_triplet.result
    c.from_residual-in_err-put_triplet.ensures.1 in
    rw (p.1) (IsWriting-refused c.loop-row.invariant.writing c.in_err-put_triplet.ensures.prefix)

pub returns-clause-ok : goal.returns-clause-ok
returns-clause-ok g c = on_ok-map c.flush.result
    (IsWriting-all _ c.loop-row.invariant.writing c.in-None.ensures.steps.0) c.flush.ensures.all

pub returns-clause-prefix : goal.returns-clause-prefix
returns-clause-prefix g c = on_err-map c.flush.result
    (IsWriting-refused c.loop-row.invariant.writing) c.flush.ensures.prefix

pub returns-in_err-put_triplet-clause-refused : goal.returns-in_err-put_triplet-clause-refused
returns-in_err-put_triplet-clause-refused g c =
    let p = err_from_is_err_and c.from_residual-in_err-put_triplet.result
    c.from_residual-in_err-put_triplet.ensures.1 in
    rw (p.1, p.2, sym c.loop-row.invariant.unfailed) c.in_err-put_triplet.ensures.refused

pub returns-clause-unfailed : goal.returns-clause-unfailed
returns-clause-unfailed g c = IfOk-equal _ _ _ _ c.flush.ensures.unfailed
    c.loop-row.invariant.unfailed

pub returns-clause-refused : goal.returns-clause-refused
returns-clause-refused g c = rw (sym c.loop-row.invariant.unfailed) c.flush.ensures.refused

-- ---- written by tools/answer-goals

pub returns-in_err-text-clause-prefix : goal.returns-in_err-text-clause-prefix
returns-in_err-text-clause-prefix g c = grind (arith, common_steps)

pub put_triplet-requires-clause-col : goal.put_triplet-requires-clause-col
put_triplet-requires-clause-col g c = grind (arith, moves)

pub put_triplet-requires-clause-row : goal.put_triplet-requires-clause-row
put_triplet-requires-clause-row g c = grind (arith, moves)
