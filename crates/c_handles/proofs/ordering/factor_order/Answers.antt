use Rattle.c_handles.proofs.HeldOrders.{IfErr-IsOrderUnwritten, OnOk-WritesOrder}
use Rattle.c_handles.proofs.ordering.factor_order.Goals as goal

pub returns-clause-written : goal.returns-clause-written
returns-clause-written c = OnOk-WritesOrder c.args.handle.now.value _ _ c.in_ok-factors.ensures.value
    c.deref.ensures c.write_order.result c.in_ok-order.order c.args.out.now c.write_order.new.out
    c.in_ok-order.ensures c.write_order.ensures.written

pub returns-clause-fault : goal.returns-clause-fault
returns-clause-fault c = IfErr-IsOrderUnwritten c.args.handle.now.value _ _ c.in_ok-factors.ensures.value
    c.deref.ensures c.write_order.result c.in_ok-order.order c.args.out.now
    c.in_ok-order.ensures c.write_order.ensures.fault
