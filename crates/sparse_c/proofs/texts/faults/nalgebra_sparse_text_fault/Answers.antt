use Rattle.std.proofs.Common.{ℕ, List, subst}
use Rattle.sparse_c.specs.Texts.{IsFaultLine}
use Rattle.sparse_c.proofs.texts.faults.nalgebra_sparse_text_fault.Goals as goal

pub returns-in-Ok-clause-line : goal.returns-in-Ok-clause-line
returns-in-Ok-clause-line c = λ _. subst (λ (t : List ℕ). IsFaultLine t c.line_of_fault.result)
    c.in-Ok.ensures.cases.0 c.line_of_fault.ensures
