use Rattle.std.proofs.lemmas.Grind.{common_steps}
use Rattle.std.proofs.Common.{refl, arith}
use Rattle.sparse_algebra.specs.declared.error.OperationErrorKind.TheVariants.{InvalidPattern}
use Rattle.sparse_algebra.specs.declared.error.OperationErrorKind.TheVariants.{OutOfMemory}
use Rattle.sparse_sums.proofs.Updating.{on_ok_also}
use Rattle.sparse_products.proofs.Updating.{if_of_all, refused_is, update_of}
use Rattle.sparse_products.proofs.serial.prealloc.spmm_csr_prealloc.Goals as goal

pub update_checked-requires : goal.update_checked-requires
update_checked-requires g c =
    let target = c.pattern_and_values_mut-values.ensures in
    let update = update_of c.matrices.result c.matrices.ensures c.in_ok-operands.ensures.product
    target.pattern target.values c.values.ensures.sound c.requires.rows c.requires.cols in
    update.sizes

pub returns : goal.returns
returns g c =
    let f = g.T.Ring.value in
    let target = c.pattern_and_values_mut-values.ensures in
    let update = update_of c.matrices.result c.matrices.ensures c.in_ok-operands.ensures.product
    target.pattern target.values c.values.ensures.sound c.requires.rows c.requires.cols in
    let is = c.update_checked.ensures in
    record {
      covered = λ ok. update.covered.0 (is.covered.0 ok);
      refused = refused_is _ InvalidPattern OutOfMemory is.kind
          (λ h. is.covered.1 (update.covered.1 h));
      no_memory = if_of_all c.args.a c.args.b (λ _ _. is.kind);
      unchanged = grind (arith, common_steps);
      pattern = refl;
      updated = on_ok_also _ (λ _. update.updated (f c.args.beta) (f c.args.alpha) _
          c.update_checked.auto.values) is.updated;
    }
