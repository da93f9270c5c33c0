use Rattle.std.proofs.Common.{arith, ap, length}
use Rattle.sparse_factor.proofs.SharedRows.{offset_within}
use Rattle.sparse_factor.proofs.ldl.updates.subtract_one.Goals as goal

pub advance-at-requires-clause-fits : goal.advance-at-requires-clause-fits
advance-at-requires-clause-fits g c =
    let within = offset_within c.minor_indices.ensures.valid c.requires.cursor in
    omega (arith, within, ap length c.minor_indices.ensures.indices)

pub scale_of-scale-requires-clause-value : goal.scale_of-scale-requires-clause-value
scale_of-scale-requires-clause-value g c =
    let within = offset_within c.minor_indices.ensures.valid c.requires.cursor in
    omega (arith, within, c.advance-at.ensures.cursor, c.requires.fits)
