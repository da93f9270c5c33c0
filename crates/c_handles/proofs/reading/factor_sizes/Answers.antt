use Rattle.std.proofs.Common.{ap, sym, ◌∙◌}
use Rattle.sparse_algebra.specs.Plain.{Plain, plain_transpose}
use Rattle.sparse_algebra.specs.WrappingValues.{w64_value}
use Rattle.c_arrays.proofs.Meanings.{place_count-rows}
use Rattle.c_arrays.specs.Arrays.{place_count, ring64}
use Rattle.c_handles.proofs.HeldFactors.{l-held}
use Rattle.sparse_compressed.specs.PlainOfLanes.{plain_of_cols}
use Rattle.c_handles.proofs.reading.factor_sizes.Goals as goal

pub returns-clause-rows : goal.returns-clause-rows
returns-clause-rows c =
    let l = l-held c.args.handle.now.value _ c.deref.result.now c.in_ok-factors.ensures.value c.deref.ensures in
    c.nrows.ensures ∙ ap (λ m. m.pattern.minor_dim) (c.l-l.ensures.l ∙ ap (λ s. s.l) c.ldl.ensures)
    ∙ ap (λ (p : Plain ring64). p.rows) l

pub returns-clause-cols : goal.returns-clause-cols
returns-clause-cols c =
    let l = l-held c.args.handle.now.value _ c.deref.result.now c.in_ok-factors.ensures.value c.deref.ensures in
    c.nrows.ensures ∙ ap (λ m. m.pattern.minor_dim) c.l-l.ensures.l ∙ sym c.l-l.ensures.lower.square
    ∙ ap (λ s. s.l.pattern.major_dim) c.ldl.ensures ∙ ap (λ (p : Plain ring64). p.cols) l

pub returns-clause-places : goal.returns-clause-places
returns-clause-places c =
    let l = l-held c.args.handle.now.value _ c.deref.result.now c.in_ok-factors.ensures.value c.deref.ensures in
    c.nnz.ensures.count
    ∙ sym (place_count-rows ring64 w64_value c.l-l.result.now c.nnz.ensures.sound)
    ∙ ap (λ m. place_count (plain_transpose ring64 (plain_of_cols ring64 w64_value m)))
    (c.l-l.ensures.l ∙ ap (λ s. s.l) c.ldl.ensures)
    ∙ ap (λ (p : Plain ring64). place_count (plain_transpose ring64 p)) l
