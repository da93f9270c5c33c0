use Rattle.std.proofs.Common.{sym, ◌∙◌}
use Rattle.mtxkit_texts.proofs.TextFaults.{mismatch_fault}
use Rattle.sparse_faults.specs.ValueTypes.{scalar_as}
use Rattle.mtxkit_texts.proofs.loaded.mismatch.Goals as goal

pub returns-then-is_supported : goal.returns-then-is_supported
returns-then-is_supported c =
    mismatch_fault (scalar_as c.args.values) c.args.text.now c.args.number
    c.location_of-location.result c.location_of-location.ensures
    (sym c.is_supported.ensures ∙ c.if-is_supported.true)
