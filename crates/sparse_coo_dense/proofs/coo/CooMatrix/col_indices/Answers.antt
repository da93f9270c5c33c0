use Rattle.std.proofs.Common.{◌∙◌}
use Rattle.sparse_coo_dense.proofs.TripletLists.{cols_back, parts_inside}
use Rattle.sparse_coo_dense.proofs.coo.CooMatrix.col_indices.Goals as goal

pub returns-clause-cols : goal.returns-clause-cols
returns-clause-cols g c = rw (← c.self.view_is) (c.deref.ensures.value ∙ cols_back c.self.invariant)

pub returns-clause-inside : goal.returns-clause-inside
returns-clause-inside g c = rw (← c.self.view_is) (parts_inside c.self.invariant)
