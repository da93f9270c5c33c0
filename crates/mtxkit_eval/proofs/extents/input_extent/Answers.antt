use Rattle.std.proofs.Common.{ap, sym, ◌∙◌}
use Rattle.mtxkit_eval.specs.Extents.{capped}
use Rattle.mtxkit_eval.proofs.Caps.{extent-at}
use Rattle.mtxkit_eval.proofs.extents.input_extent.Goals as goal

pub returns : goal.returns
returns c = c.matrix_extent.ensures
    ∙ ap capped (sym (extent-at c.args.inputs.now c.args.number c.index-inputs-number.result
    c.if-number-eq0.false c.if-number-inputs.false c.index-inputs-number.is))
