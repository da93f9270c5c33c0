use Rattle.std.proofs.Common.{sym, ap, ◌∙◌, inl}
use Rattle.sparse_parser.specs.InnerReading.{size_numbers}
use Rattle.sparse_faults.specs.ValueTypes.{scalar_as}
use Rattle.sparse_faults.proofs.DocumentSizes.{sizes_allowed}
use Rattle.sparse_faults.proofs.FaultNumbers.{fault_counted, grammar_counted, none_fault}
use Rattle.sparse_faults.proofs.FaultNumbers.{some_counted, some_fault}
use Rattle.sparse_faults.proofs.FirstFault.{sizes_wrong}
use Rattle.sparse_faults.proofs.SearchedLines.{no_entry_line}
use Rattle.sparse_faults.proofs.locations.text_fault.Goals as goal

-- ---- the header or the size line is none

pub returns-in-Err-clause-fault : goal.returns-in-Err-clause-fault
returns-in-Err-clause-fault c = inl (rw c.as_bytes.ensures.value at c.in-Err.ensures.fault)

pub returns-in-Err-clause-counted : goal.returns-in-Err-clause-counted
returns-in-Err-clause-counted c =
    grammar_counted (scalar_as c.args.values) _ _ c.in-Err.ensures.fault

-- ---- a line that is no data line

pub returns-in-Err-first_fault-clause-fault : goal.returns-in-Err-first_fault-clause-fault
returns-in-Err-first_fault-clause-fault c =
    inl (no_entry_line (rw c.as_bytes.ensures.value at c.in-Ok.ensures.sizes)
    c.in-Err-first_fault.ensures.fault)

pub returns-in-Err-first_fault-clause-counted : goal.returns-in-Err-first_fault-clause-counted
returns-in-Err-first_fault-clause-counted c =
    grammar_counted (scalar_as c.args.values) _ _
    (no_entry_line c.in-Ok.ensures.sizes c.in-Err-first_fault.ensures.fault)

-- ---- the sizes have no error

pub entries_fault-requires-clause-allowed : goal.entries_fault-requires-clause-allowed
entries_fault-requires-clause-allowed c =
    let z = c.in-Ok.ensures.sizes in
    sizes_allowed _ z.size _
    (sym z.sizes ∙ ap (λ r. size_numbers r) c.in-Ok-size.is)

pub returns-in-Ok-size-clause-fault : goal.returns-in-Ok-size-clause-fault
returns-in-Ok-size-clause-fault c =
    some_fault (scalar_as c.args.values) c.args.text.now c.entries_fault.result
    (c.entries_fault.ensures c.args.text.now
    (rw (c.as_bytes.ensures.value, c.in-Ok-size.is) at c.in-Ok.ensures.sizes)
    c.in-Ok-first_fault.ensures.passed)

pub returns-in-Ok-size-clause-counted : goal.returns-in-Ok-size-clause-counted
returns-in-Ok-size-clause-counted c =
    some_counted (scalar_as c.args.values) c.args.text.now c.entries_fault.result
    (c.entries_fault.ensures c.args.text.now
    (rw (c.as_bytes.ensures.value, c.in-Ok-size.is) at c.in-Ok.ensures.sizes)
    c.in-Ok-first_fault.ensures.passed)

pub returns-in-Ok-size-clause-none : goal.returns-in-Ok-size-clause-none
returns-in-Ok-size-clause-none c =
    none_fault (scalar_as c.args.values) c.args.text.now c.entries_fault.result
    (c.entries_fault.ensures c.args.text.now
    (rw (c.as_bytes.ensures.value, c.in-Ok-size.is) at c.in-Ok.ensures.sizes)
    c.in-Ok-first_fault.ensures.passed)

-- ---- the sizes have an error

pub returns-in-Err-size-clause-fault : goal.returns-in-Err-size-clause-fault
returns-in-Err-size-clause-fault c =
    sizes_wrong c.args.values _
    (rw (c.as_bytes.ensures.value, c.in-Err-size.is) at c.in-Ok.ensures.sizes)
    c.in-Ok-first_fault.ensures.passed c.sizes_fault.ensures

pub returns-in-Err-size-clause-counted : goal.returns-in-Err-size-clause-counted
returns-in-Err-size-clause-counted c =
    fault_counted (scalar_as c.args.values) c.args.text.now _
    (sizes_wrong c.args.values _
    (rw (c.as_bytes.ensures.value, c.in-Err-size.is) at c.in-Ok.ensures.sizes)
    c.in-Ok-first_fault.ensures.passed c.sizes_fault.ensures)
