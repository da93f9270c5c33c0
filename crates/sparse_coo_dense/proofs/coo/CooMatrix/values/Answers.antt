use Rattle.std.proofs.Common.{◌∙◌}
use Rattle.sparse_coo_dense.proofs.TripletLists.{values_back}
use Rattle.sparse_coo_dense.proofs.coo.CooMatrix.values.Goals as goal

pub returns : goal.returns
returns g c = rw (← c.self.view_is) (c.deref.ensures.value ∙ values_back c.self.invariant)
