use Rattle.std.proofs.Common.{◌∙◌}
use Rattle.c_handles.proofs.Done.{OnOk-Holds}
use Rattle.c_handles.proofs.from_arrays.put_triplets.Goals as goal

pub returns-clause-done : goal.returns-clause-done
returns-clause-done c = OnOk-Holds c.put.result c.put.new.handle.value _ _ c.put.ensures.put
    (c.in_ok-matrix.ensures.plain ∙ c.in_ok-list.ensures.plain)
