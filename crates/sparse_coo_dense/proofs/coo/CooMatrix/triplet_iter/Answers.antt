use Rattle.sparse_coo_dense.proofs.TripletLists.{parts_inside}
use Rattle.sparse_coo_dense.proofs.coo.CooMatrix.triplet_iter.Goals as goal

pub returns-clause-inside : goal.returns-clause-inside
returns-clause-inside g c = rw (← c.self.view_is) (parts_inside c.self.invariant)
