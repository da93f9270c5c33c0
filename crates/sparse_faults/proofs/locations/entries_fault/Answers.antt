use Rattle.std.proofs.Common.{refl}
use Rattle.sparse_faults.proofs.DocumentSizes.{count_same, count_differs}
use Rattle.sparse_faults.proofs.FirstFault.{count_wrong, entry_wrong, bounds_wrong, none_wrong}
use Rattle.sparse_faults.proofs.locations.entries_fault.Goals as goal

pub returns-in-Some-2 : goal.returns-in-Some-2
returns-in-Some-2 c = λ text z p. count_wrong c.args.values z p
    (count_differs c.args.size.count _ c.args.count c.in-Some.is c.if-wanted-count.false)

pub returns-in-None : goal.returns-in-None
returns-in-None c = λ text z p. count_wrong c.args.values z p (rw c.in-None.is refl)

pub returns-in-Err : goal.returns-in-Err
returns-in-Err c = λ text z p. entry_wrong c.args.values z p
    (count_same c.args.size.count _ c.args.count c.in-Some.is c.if-wanted-count.true) _
    c.in-Err.ensures.fault

pub returns-in-Err-first_fault : goal.returns-in-Err-first_fault
returns-in-Err-first_fault c = λ text z p. bounds_wrong c.args.values z p
    (count_same c.args.size.count _ c.args.count c.in-Some.is c.if-wanted-count.true)
    c.in-Ok.ensures.passed _ c.in-Err-first_fault.ensures.fault

pub returns-in-Ok-first_fault : goal.returns-in-Ok-first_fault
returns-in-Ok-first_fault c = λ text z p. none_wrong c.args.values z p
    (count_same c.args.size.count _ c.args.count c.in-Some.is c.if-wanted-count.true)
    c.in-Ok.ensures.passed c.in-Ok-first_fault.ensures.passed
