use Rattle.sparse_coo_dense.specs.CooPlain.{plain_of_coo}
use Rattle.sparse_expr.proofs.Values.{input_met}
use Rattle.reference_models.proofs.expressions.input.Goals as goal

pub returns : goal.returns
returns g c =
    let R = g.T.Ring.ring in
    input_met R (plain_of_coo R g.T.Ring.value) c.args.inputs.now c.args.number
    c.index-inputs-number.result _ c.if-number-eq0.false c.if-number-inputs.false
    c.index-inputs-number.is c.in_ok-tabulated.ensures.is
