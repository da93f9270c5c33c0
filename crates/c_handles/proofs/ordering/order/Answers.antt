use Rattle.c_handles.proofs.HeldOrders.{IfErr-IsUnordered, OnOk-WritesOrderOf}
use Rattle.c_handles.proofs.ordering.order.Goals as goal

pub returns-clause-written : goal.returns-clause-written
returns-clause-written c = OnOk-WritesOrderOf c.args.a.now.value _ _ c.in_ok-a.ensures.value c.deref.ensures
    c.write_order.result c.in_ok-order.order c.args.out.now c.write_order.new.out
    c.in_ok-order.ensures.square c.write_order.ensures.valid c.in_ok-order.ensures.count c.write_order.ensures.written

pub returns-clause-fault : goal.returns-clause-fault
returns-clause-fault c = IfErr-IsUnordered c.args.a.now.value _ _ c.in_ok-a.ensures.value c.deref.ensures
    c.write_order.result c.in_ok-order.order c.args.out.now c.in_ok-order.ensures.square
    c.in_ok-order.ensures.count
    c.write_order.ensures.fault
