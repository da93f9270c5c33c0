use Rattle.std.proofs.Common.{◌∙◌}
use Rattle.sparse_coo_dense.proofs.TripletLists.{rows_back, parts_inside}
use Rattle.sparse_coo_dense.proofs.coo.CooMatrix.row_indices.Goals as goal

pub returns-clause-rows : goal.returns-clause-rows
returns-clause-rows g c = rw (← c.self.view_is) (c.deref.ensures.value ∙ rows_back c.self.invariant)

pub returns-clause-inside : goal.returns-clause-inside
returns-clause-inside g c = rw (← c.self.view_is) (parts_inside c.self.invariant)
