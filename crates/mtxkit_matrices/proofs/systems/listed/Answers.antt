use Rattle.std.proofs.Common.{◌≡◌, All, sym, subst, ◌∙◌}
use Rattle.std.proofs.lemmas.Result.{IfOk-weaker}
use Rattle.sparse_coo_dense.specs.Coo.{Coo}
use Rattle.sparse_coo_dense.specs.CooPlain.{plain_of_coo}
use Rattle.sparse_coo_dense.specs.Dense.{value_at}
use Rattle.sparse_coo_dense.specs.DensePlain.{plain_of_dense}
use Rattle.sparse_convert.specs.FromDense.{IsNonzeroPart, column_triplets, differs_from}
use Rattle.mtxkit_matrices.specs.Orders.{IsByColumns, coordinates_of}
use Rattle.mtxkit_matrices.proofs.ColumnOrders.{kept-by_columns, columns-by_columns, kept-differ}
use Rattle.mtxkit_matrices.proofs.systems.listed.Goals as goal

pub returns-clause-values : goal.returns-clause-values
returns-clause-values g c =
    let R = g.T.Ring.ring in
    let f = g.T.Ring.value in
    IfOk-weaker c.convert_dense_coo.result _ _
    (λ m is i j.
    let part : IsNonzeroPart (plain_of_dense R f c.args.x.now) (plain_of_coo R f m) =
    subst (λ l. IsNonzeroPart (plain_of_dense R f c.args.x.now) (plain_of_coo R f l))
    (sym is) (c.from_dense_law.ensures.coo c.args.x.now) in
    part.value i j)
    c.convert_dense_coo.ensures

pub returns-clause-order : goal.returns-clause-order
returns-clause-order g c =
    let x = c.args.x.now in
    let E = g.T.PartialEq.eq in
    let z = g.T.Zero.zero_value in
    IfOk-weaker c.convert_dense_coo.result _ _
    (λ m is. subst (λ (l : Coo g.row.T.Denot). IsByColumns (coordinates_of l.triplets)) (sym is)
    (kept-by_columns (differs_from E z) (column_triplets z x)
    (columns-by_columns (λ i j. value_at x i j z) x.nrows x.ncols)))
    c.convert_dense_coo.ensures

pub returns-clause-nonzero : goal.returns-clause-nonzero
returns-clause-nonzero g c =
    let R = g.T.Ring.ring in
    let f = g.T.Ring.value in
    let x = c.args.x.now in
    let E = g.T.PartialEq.eq in
    let z = g.T.Zero.zero_value in
    IfOk-weaker c.convert_dense_coo.result _ _
    (λ m is. subst (λ (l : Coo g.row.T.Denot). All (λ t. f t.2 ≡ R.zero → ⊥) l.triplets) (sym is)
    (kept-differ E z (λ v. f v ≡ R.zero)
    (λ v zero. (g.met.T.Ring.eq_law v z).1 (zero ∙ sym g.met.T.Ring.zero_law))
    (column_triplets z x)))
    c.convert_dense_coo.ensures
