use Rattle.std.proofs.Common.{◌≢◌, length, sym, ◌∙◌, arith, rules}
use Rattle.std.proofs.lemmas.Bool.{eqb-true, eqb-false}
use Rattle.sparse_parser.specs.InnerReading.{line_words}
use Rattle.sparse_io.proofs.EntryLoop.{IsRead, line_read, line_refused, count_start, count_more}
use Rattle.sparse_io.proofs.EntryLoop.{count_refused, count_end}
use Rattle.sparse_io.proofs.reader.count_entries.Goals as goal

pub loop-rest-init : goal.loop-rest-init
loop-rest-init c = record {
  begins = c.next_line-rest.ensures.begins;
  counted = count_start _ _ c.next_line-rest.ensures.same;
  room = let l = c.next_line-rest.ensures.len in omega arith;
}

pub returns-in_err-after : goal.returns-in_err-after
returns-in_err-after c =
    let some : length c.loop-rest.rest.now ≢ 0 =
    eqb-false _ _ (sym c.is_empty.ensures ∙ c.loop-rest-test.true) in
    let r = line_refused c.loop-rest.rest.now c.loop-rest.invariant.begins (omega arith)
    c.in_err-after.ensures in
    c.from_residual.ensures ∙ count_refused c.loop-rest.rest.now c.loop-rest.count _ r
    c.loop-rest.invariant.counted

-- the data line that this iteration read
was_read : (c : goal.After-next_line-rest-in-loop-rest)
    → IsRead c.loop-rest.rest.now c.next_line-rest-in-loop-rest.result.now
    (line_words c.loop-rest.rest.now)
was_read c =
    let some : length c.loop-rest.rest.now ≢ 0 =
    eqb-false _ _ (sym c.is_empty.ensures ∙ c.loop-rest-test.true) in
    line_read _ _ _ _ c.loop-rest.invariant.begins (omega arith) c.in_ok-after.ensures
    c.next_line-rest-in-loop-rest.ensures.same c.next_line-rest-in-loop-rest.ensures.len

pub overflow_add-count : goal.overflow_add-count
overflow_add-count c = let r = (was_read c).shorter in search rules

pub loop-rest-smaller : goal.loop-rest-smaller
loop-rest-smaller c = (was_read c).shorter

pub loop-rest-preserved : goal.loop-rest-preserved
loop-rest-preserved c = record {
  begins = c.next_line-rest-in-loop-rest.ensures.begins;
  counted = count_more _ _ _ c.loop-rest.count _ (was_read c) c.loop-rest.invariant.counted;
  room = let r = (was_read c).shorter in omega arith;
}

pub returns : goal.returns
returns c = count_end c.loop-rest.rest.now c.loop-rest.count _
    (eqb-true _ _ (sym c.is_empty.ensures ∙ c.loop-rest-test.false)) c.loop-rest.invariant.counted
