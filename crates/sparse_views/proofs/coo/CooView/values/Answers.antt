use Rattle.sparse_coo_dense.proofs.TripletLists.{values_back}
use Rattle.sparse_views.proofs.coo.CooView.values.Goals as goal

pub returns : goal.returns
returns g c = rw (← c.self.view_is) (values_back c.self.invariant)
