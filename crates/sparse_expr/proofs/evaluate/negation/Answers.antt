use Rattle.std.proofs.Common.{ap, ◌∙◌, Ok}
use Rattle.sparse_algebra.specs.Plain.{plain_negation}
use Rattle.sparse_compressed.specs.PlainOfLanes.{plain_of_rows}
use Rattle.sparse_expr.proofs.Values.{negation_met}
use Rattle.sparse_expr.proofs.evaluate.negation.Goals as goal

pub returns : goal.returns
returns g c = λ transposed.
    let R = g.T.Ring.ring in
    let f = g.T.Ring.value in
    ap Ok (negation_met R f transposed c.args.x.value c.in_ok-new.field-0.value
    (ap (plain_of_rows R f) c.in_ok-new.ensures.ok ∙ c.neg-negated.ensures
    ∙ ap (λ m. plain_negation R (plain_of_rows R f m)) c.in_ok-owned.ensures.is))
