use Rattle.std.proofs.Common.{sym, ◌∙◌}
use Rattle.sparse_faults.proofs.LineTriplets.{value_line}
use Rattle.sparse_faults.proofs.line_faults.array_fault.Goals as goal

pub returns-in-Integer-One : goal.returns-in-Integer-One
returns-in-Integer-One c =
    rw c.in-Integer-One.is-1
    (c.number_fault.ensures ∙ sym (value_line c.args.values c.args.header _ c.requires.format
    c.in-Integer-One.is-0))
