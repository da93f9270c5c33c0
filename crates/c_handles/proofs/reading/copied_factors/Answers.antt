use Rattle.std.proofs.Common.{ap, length, ◌∙◌}
use Rattle.sparse_algebra.specs.Plain.{Plain}
use Rattle.sparse_algebra.specs.WrappingValues.{w64_value}
use Rattle.c_arrays.specs.Arrays.{ring64}
use Rattle.c_handles.specs.Factored.{zero64}
use Rattle.c_handles.proofs.HeldFactors.{d-held, l-held}
use Rattle.sparse_compressed.specs.PlainOfLanes.{plain_of_cols}
use Rattle.sparse_factor.specs.Factors.{diagonal}
use Rattle.c_handles.proofs.reading.copied_factors.Goals as goal

pub returns-clause-columns : goal.returns-clause-columns
returns-clause-columns c =
    let is = c.in_ok-factors.ensures.value in
    ap (plain_of_cols ring64 w64_value)
    (c.transpose_as_csr.ensures ∙ c.in_ok-l.ensures ∙ c.l.ensures.l ∙ ap (λ s. s.l) c.ldl-ldl.ensures)
    ∙ l-held c.args.handle.now.value _ c.deref.result.now is c.deref.ensures

pub returns-clause-diagonal : goal.returns-clause-diagonal
returns-clause-diagonal c =
    let is = c.in_ok-factors.ensures.value in
    ap (diagonal ring64 w64_value zero64)
    (c.in_ok-d.ensures.items ∙ c.d.ensures.d ∙ ap (λ s. s.d) c.ldl-ldl.ensures)
    ∙ d-held c.args.handle.now.value _ c.deref.result.now is c.deref.ensures

pub returns-clause-count : goal.returns-clause-count
returns-clause-count c =
    let is = c.in_ok-factors.ensures.value in
    ap length (c.in_ok-d.ensures.items ∙ c.d.ensures.d) ∙ c.d.ensures.count
    ∙ ap (λ s. s.l.pattern.minor_dim) c.ldl-ldl.ensures ∙ ap (λ (p : Plain ring64). p.rows)
    (l-held c.args.handle.now.value _ c.deref.result.now is c.deref.ensures)
