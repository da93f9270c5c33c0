use Rattle.std.proofs.Common.{subst, ap, rules, ◌∙◌}
use Rattle.std.specs.Prelude.{IfErr, IfOk}
use Rattle.std.proofs.lemmas.Result.{IfErr-weaker}
use Rattle.sparse_algebra.specs.Plain.{Plain, below, plain_product}
use Rattle.sparse_coo_dense.specs.CooPlain.{plain_of_coo}
use Rattle.sparse_coo_dense.specs.DensePlain.{plain_of_dense}
use Rattle.sparse_dense_ops.specs.Solutions.{HasSameValues}
use Rattle.sparse_pattern.specs.Raw.{Raw}
use Rattle.mtxkit_matrices.specs.InnerSystems.{IsUnsolvableIn}
use Rattle.mtxkit_matrices.specs.Pivots.{IsOrderBy}
use Rattle.mtxkit_matrices.specs.Values.{IsSymmetricMatrix}
use Rattle.mtxkit_matrices.proofs.SingularPivots.{unsolvable}
use Rattle.mtxkit_matrices.proofs.systems.solve_fitting.Goals as goal

pub returns-clause-solved : goal.returns-clause-solved
returns-clause-solved g c =
    let R = g.T.Ring.ring in
    let f = g.T.Ring.value in
    let b = c.args.b.now in
    subst (λ (p : Plain R). IfOk c.solve_in_order.result (λ x. HasSameValues R b.nrows b.ncols
    (plain_product R p (plain_of_dense R f x)) (plain_of_coo R f b)))
    c.in_ok-columns.ensures.plain c.solve_in_order.ensures.solved

pub returns-clause-refused : goal.returns-clause-refused
returns-clause-refused g c =
    let R = g.T.Ring.ring in
    let f = g.T.Ring.value in
    let a = plain_of_coo R f c.args.a.now in
    let p = c.in_ok-permutation.permutation in
    let plain = c.in_ok-columns.ensures.plain in
    let rows = ap (λ (d : Raw). d.major_dim) c.pattern.ensures.pattern
    ∙ ap (λ (v : Plain R). v.cols) plain ∙ c.requires.square in
    let named : IsOrderBy c.args.order a.rows p = record {
      each = c.order.ensures.valid;
      count = c.in_ok-permutation.ensures.count ∙ rows;
      natural = λ natural. c.in_ok-permutation.ensures.natural natural ∙ ap below rows;
    } in
    let symmetric : IsSymmetricMatrix R a = search rules in
    IfErr-weaker c.solve_in_order.result _ _ (λ e. unsolvable R f c.args.order a p named symmetric e)
    (subst (λ (q : Plain R). IfErr c.solve_in_order.result (IsUnsolvableIn R f p q)) plain
    c.solve_in_order.ensures.refused)
