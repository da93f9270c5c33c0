use Rattle.std.proofs.Common.{ap}
use Rattle.sparse_coo_dense.specs.Coo.{coo_of}
use Rattle.sparse_coo_dense.proofs.TripletLists.{triplets-push}
use Rattle.sparse_coo_dense.proofs.coo.CooMatrix.push.Goals as goal

pub returns-clause-ok : goal.returns-clause-ok
returns-clause-ok g c =
    let m = c.self.inside in
    let more = triplets-push m.row_indices.items m.col_indices.items m.values.items c.args.i
    c.args.j c.args.v c.self.invariant.row_count c.self.invariant.col_count in
    rw (
      ← c.self.view_is,
      c.push_reserved.ensures.items,
      c.push_reserved-2.ensures.items,
      c.push_reserved-3.ensures.items,
      c.in_ok-reserve_each.ensures.rows,
      c.in_ok-reserve_each.ensures.cols,
      c.in_ok-reserve_each.ensures.values,
    )
    (ap (coo_of m.nrows m.ncols) more)
