use Rattle.sparse_faults.specs.ValueTypes.{scalar_as}
use Rattle.mtxkit_texts.proofs.TextFaults.{has_error, other_fault}
use Rattle.mtxkit_texts.proofs.loaded.unread.Goals as goal

pub mismatch-requires : goal.mismatch-requires
mismatch-requires c =
    has_error (scalar_as c.args.values) c.args.text.now c.args.kind c.requires
    (λ e. let is = c.in-TypeMismatch.is in cc)

pub location_of-requires : goal.location_of-requires
location_of-requires c =
    has_error (scalar_as c.args.values) c.args.text.now c.args.kind c.requires
    c.in_default.not-OutOfMemory

pub returns-in-TypeMismatch : goal.returns-in-TypeMismatch
returns-in-TypeMismatch c = rw c.in-TypeMismatch.is c.mismatch.ensures

pub returns-in_default : goal.returns-in_default
returns-in_default c =
    let n = c.in_default.not-OutOfMemory in
    other_fault (scalar_as c.args.values) c.args.text.now c.args.number c.location_of.result
    c.location_of.ensures c.args.kind n c.in_default.not-TypeMismatch
