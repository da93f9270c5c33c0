use Rattle.std.proofs.Common.{◌∙◌}
use Rattle.std.specs.Int.{w64}
use Rattle.sparse_algebra.specs.Numbers.{w64_number}
use Rattle.sparse_algebra.specs.Wrapping.{class_of}
use Rattle.c_arrays.specs.Arrays.{ring64}
use Rattle.c_handles.proofs.PlainTexts.{plain-numbers, OnOk-HoldsMeaning}
use Rattle.c_handles.proofs.texts.put_lines.Goals as goal

pub returns-clause-done : goal.returns-clause-done
returns-clause-done c = OnOk-HoldsMeaning c.put.result c.put.new.handle.value _ _ _ c.put.ensures.put
    c.in_ok-list.ensures.ok
    (c.in_ok-matrix.ensures.plain ∙ plain-numbers w64_number ring64 (class_of w64) _)
