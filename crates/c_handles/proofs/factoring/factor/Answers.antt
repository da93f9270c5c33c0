use Rattle.c_handles.proofs.HeldFactors.{OnOk-HoldsFactors}
use Rattle.c_handles.proofs.factoring.factor.Goals as goal

pub returns-clause-done : goal.returns-clause-done
returns-clause-done c = OnOk-HoldsFactors c.args.a.now.value _ _ c.in_ok-a.ensures.value c.deref.ensures
    c.put.result c.put.new.handle.value _ c.put.ensures.put
    c.in_ok-factors.ensures.factors
