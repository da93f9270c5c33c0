use Rattle.std.proofs.Common.{arith}
use Rattle.std.proofs.lemmas.Grind.{common_steps}
use Rattle.sparse_products.proofs.Updating.{if_also, no_more_as, update_of}
use Rattle.sparse_products.proofs.serial.unchecked.spmm_csr_prealloc_unchecked_counted.Goals as goal

pub update_covered-requires : goal.update_covered-requires
update_covered-requires g c =
    let target = c.pattern_and_values_mut-values.ensures in
    let update = update_of c.matrices.result c.matrices.ensures c.in_ok-operands.ensures.product
    target.pattern target.values c.values.ensures.sound c.requires.rows c.requires.cols in
    record {
      sizes = update.sizes;
      width = update.width;
      covered = update.covered.1 c.requires.covered;
    }

pub returns-clause-updated : goal.returns-clause-updated
returns-clause-updated g c =
    let f = g.T.Ring.value in
    let target = c.pattern_and_values_mut-values.ensures in
    let update = update_of c.matrices.result c.matrices.ensures c.in_ok-operands.ensures.product
    target.pattern target.values c.values.ensures.sound c.requires.rows c.requires.cols in
    update.updated (f c.args.beta) (f c.args.alpha) _ c.update_covered.auto.values
    c.in_ok-update_covered.ensures.updated

pub returns-in_err-update_covered-clause-no_more : goal.returns-in_err-update_covered-clause-no_more
returns-in_err-update_covered-clause-no_more g c =
    no_more_as c.args.a c.args.b c.in_ok-operands.operands c.matrices.result _ c.matrices.ensures
    c.pattern_and_values_mut-values.ensures.pattern c.in_ok-operands.ensures.borrowed
    c.update_covered.ensures.no_more

pub returns-clause-no_more : goal.returns-clause-no_more
returns-clause-no_more g c =
    no_more_as c.args.a c.args.b c.in_ok-operands.operands c.matrices.result _ c.matrices.ensures
    c.pattern_and_values_mut-values.ensures.pattern c.in_ok-operands.ensures.borrowed
    c.update_covered.ensures.no_more

pub returns-clause-all_multiplied : goal.returns-clause-all_multiplied
returns-clause-all_multiplied g c =
    if_also c.args.a c.args.b (λ m n same. rw (← same.0, ← same.1)
    (rw (c.matrices.ensures.0, c.matrices.ensures.1)
    at c.in_ok-update_covered.ensures.all_multiplied)) c.in_ok-operands.ensures.borrowed

-- ---- written by tools/answer-goals

pub returns-in_err-update_covered-clause-unchanged :
    goal.returns-in_err-update_covered-clause-unchanged
returns-in_err-update_covered-clause-unchanged g c = grind (arith, common_steps)
