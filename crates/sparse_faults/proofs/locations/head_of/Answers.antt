use Rattle.std.proofs.Common.{sym, ◌∙◌}
use Rattle.sparse_faults.proofs.SizedLines.{ends_blank, head_line, no_head_line}
use Rattle.sparse_faults.proofs.locations.head_of.Goals as goal

pub returns-in-Err-clause-fault : goal.returns-in-Err-clause-fault
returns-in-Err-clause-fault c = ends_blank _ c.in-Err.ensures.none c.last_line.ensures

pub returns-in-Some-clause-head : goal.returns-in-Some-clause-head
returns-in-Some-clause-head c =
    head_line c.in-Ok.ensures.found _ (sym c.from_line.ensures ∙ c.in-Some.is)

pub returns-in-None-clause-fault : goal.returns-in-None-clause-fault
returns-in-None-clause-fault c = rw c.of_line.ensures.line
    (no_head_line c.in-Ok.ensures.found (sym c.from_line.ensures ∙ c.in-None.is))
