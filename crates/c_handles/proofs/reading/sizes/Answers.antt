use Rattle.std.proofs.Common.{ap, sym, ◌∙◌}
use Rattle.sparse_algebra.specs.WrappingValues.{w64_value}
use Rattle.c_arrays.proofs.Meanings.{place_count-rows}
use Rattle.c_arrays.specs.Arrays.{place_count, ring64}
use Rattle.c_handles.proofs.Done.{plain_of_rows-held}
use Rattle.c_handles.proofs.reading.sizes.Goals as goal

pub returns-clause-places : goal.returns-clause-places
returns-clause-places c =
    let a = plain_of_rows-held c.args.a.now.value _ _ c.in_ok-a.ensures.value c.deref-3.ensures in
    c.nnz.ensures.count
    ∙ sym (place_count-rows ring64 w64_value c.deref-3.result.now c.nnz.ensures.sound)
    ∙ ap place_count a
