use Rattle.std.proofs.Common.{Ok, Err}
use Rattle.sparse_io.proofs.OneMeaning.{means_one}
use Rattle.sparse_faults.specs.ValueTypes.{scalar_as}
use Rattle.mtxkit_texts.proofs.locations.location_of.Goals as goal

pub unreachable-requires : goal.unreachable-requires
unreachable-requires c =
    let m = c.text_fault.ensures.none c.in-None.is in
    let same = means_one (scalar_as c.args.values) c.args.text.now (Ok m.0) (Err c.requires.0) m.1
    c.requires.1 in
    cc
