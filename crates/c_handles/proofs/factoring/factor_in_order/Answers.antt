use Rattle.c_handles.proofs.HeldOrders.{OnOk-HoldsFactorsInOrder}
use Rattle.c_handles.proofs.factoring.factor_in_order.Goals as goal

pub returns-clause-done : goal.returns-clause-done
returns-clause-done c = OnOk-HoldsFactorsInOrder c.args.a.now.value _ _ c.in_ok-a.ensures.value
    c.deref.ensures c.put.result c.put.new.handle.value c.args.order.now _
    c.put.ensures.put c.in_ok-factors.ensures.factors
