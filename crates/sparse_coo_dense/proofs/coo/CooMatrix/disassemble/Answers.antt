use Rattle.sparse_coo_dense.proofs.TripletLists.{rows_back, cols_back, values_back, parts_inside}
use Rattle.sparse_coo_dense.proofs.coo.CooMatrix.disassemble.Goals as goal

pub returns-clause-rows : goal.returns-clause-rows
returns-clause-rows g c = rw (← c.self.view_is) (rows_back c.self.invariant)

pub returns-clause-cols : goal.returns-clause-cols
returns-clause-cols g c = rw (← c.self.view_is) (cols_back c.self.invariant)

pub returns-clause-values : goal.returns-clause-values
returns-clause-values g c = rw (← c.self.view_is) (values_back c.self.invariant)

pub returns-clause-inside : goal.returns-clause-inside
returns-clause-inside g c = rw (← c.self.view_is) (parts_inside c.self.invariant)
