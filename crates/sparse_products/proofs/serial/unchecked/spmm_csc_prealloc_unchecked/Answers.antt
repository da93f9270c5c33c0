use Rattle.std.proofs.Common.{arith}
use Rattle.std.proofs.lemmas.Grind.{common_steps}
use Rattle.sparse_products.proofs.Updating.{update_of}
use Rattle.sparse_products.proofs.serial.unchecked.spmm_csc_prealloc_unchecked.Goals as goal

pub update_covered-requires : goal.update_covered-requires
update_covered-requires g c =
    let target = c.pattern_and_values_mut-values.ensures in
    let update = update_of c.matrices.result c.matrices.ensures c.in_ok-operands.ensures.product
    target.pattern target.values c.values.ensures.sound c.requires.cols c.requires.rows in
    record {
      sizes = update.sizes;
      width = update.width;
      covered = update.covered.1 c.requires.covered;
    }

pub returns-clause-updated : goal.returns-clause-updated
returns-clause-updated g c =
    let f = g.T.Ring.value in
    let target = c.pattern_and_values_mut-values.ensures in
    let update = update_of c.matrices.result c.matrices.ensures c.in_ok-operands.ensures.product
    target.pattern target.values c.values.ensures.sound c.requires.cols c.requires.rows in
    update.updated (f c.args.beta) (f c.args.alpha) _ c.update_covered.auto.values
    c.in_ok-update_covered.ensures.updated

-- ---- written by tools/answer-goals

pub returns-in_err-update_covered-clause-unchanged :
    goal.returns-in_err-update_covered-clause-unchanged
returns-in_err-update_covered-clause-unchanged g c = grind (arith, common_steps)
