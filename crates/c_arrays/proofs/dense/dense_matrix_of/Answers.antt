use Rattle.std.proofs.Common.{ap, ◌∙◌}
use Rattle.sparse_coo_dense.specs.Dense.{dense_of}
use Rattle.sparse_coo_dense.specs.DensePlain.{plain_of_dense}
use Rattle.sparse_algebra.specs.Integers.{element_of}
use Rattle.sparse_coo_dense.proofs.Meanings.{dense-meant}
use Rattle.c_arrays.proofs.dense.dense_matrix_of.Goals as goal

pub returns-clause-plain : goal.returns-clause-plain
returns-clause-plain g c =
    let R = g.T.Ring.ring in
    let f = g.T.Ring.value in
    let rows = c.args.rows in
    let cols = c.args.cols in
    ap (plain_of_dense R f) (c.in_ok-from_column_slice.ensures.exact
    ∙ ap (dense_of rows cols) c.deref.ensures.value)
    ∙ dense-meant R f (element_of R) rows cols c.in_ok-scalars.scalars.items c.args.values.now
    c.in_ok-scalars.ensures
