use Rattle.std.proofs.Common.{sym, ap, ◌∙◌}
use Rattle.std.specs.Option.{option_map}
use Rattle.sparse_parser.specs.InnerReading.{size_numbers}
use Rattle.sparse_faults.proofs.SizedLines.{ends_head, no_size_line, size_line}
use Rattle.sparse_faults.proofs.locations.sizes_of.Goals as goal

pub returns-in-Err-first_content-clause-fault : goal.returns-in-Err-first_content-clause-fault
returns-in-Err-first_content-clause-fault c =
    ends_head c.in-Ok.ensures.head _ c.in-Err-first_content.ensures.none c.last_line.ensures

pub returns-in-Some-clause-sizes : goal.returns-in-Some-clause-sizes
returns-in-Some-clause-sizes c =
    size_line c.in-Ok.ensures.head c.in-Ok-first_content.ensures.found _
    (sym (ap (option_map (λ r. size_numbers r)) c.in-Some.is) ∙ c.from_line.ensures)

pub returns-in-None-clause-fault : goal.returns-in-None-clause-fault
returns-in-None-clause-fault c = rw c.of_line.ensures.line
    (no_size_line c.in-Ok.ensures.head c.in-Ok-first_content.ensures.found
    (sym (ap (option_map (λ r. size_numbers r)) c.in-None.is) ∙ c.from_line.ensures))
