use Rattle.std.proofs.Common.{length, refl}
use Rattle.mtx_commands.proofs.OneEntryPerLane.{has_one_entry_per_lane}
use Rattle.mtx_commands.proofs.fill.one_entry_per_lane.Goals as goal

pub returns-clause-entries : goal.returns-clause-entries
returns-clause-entries c =
    rw (
      c.from_offset_and_indices_unchecked.ensures,
      c.len.ensures,
      c.in_ok-indices.ensures.len,
      c.in_ok-indices.ensures.items,
    ) (has_one_entry_per_lane (length c.args.indices.now) c.args.minor_dim c.in_ok-offsets.offsets.items
    c.args.indices.now c.in_ok-offsets.ensures refl)
