use Rattle.std.proofs.Common.{sym}
use Rattle.sparse_coo_dense.proofs.TripletLists.{length-triplets}
use Rattle.sparse_views.proofs.coo.CooView.nnz.Goals as goal

pub returns : goal.returns
returns g c =
    let m = c.self.inside in
    rw (← c.self.view_is) (sym (length-triplets m.row_indices.now m.col_indices.now m.values.now
    c.self.invariant.row_count c.self.invariant.col_count))
