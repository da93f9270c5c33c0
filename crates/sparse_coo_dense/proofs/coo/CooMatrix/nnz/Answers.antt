use Rattle.std.proofs.Common.{arith, ◌∙◌}
use Rattle.sparse_coo_dense.proofs.TripletLists.{length-triplets}
use Rattle.sparse_coo_dense.proofs.coo.CooMatrix.nnz.Goals as goal

pub returns : goal.returns
returns g c =
    let m = c.self.inside in
    let count = length-triplets m.row_indices.items m.col_indices.items m.values.items
    c.self.invariant.row_count c.self.invariant.col_count in
    rw (← c.self.view_is) (c.len.ensures ∙ omega (arith, count, m.values.ok.0))
