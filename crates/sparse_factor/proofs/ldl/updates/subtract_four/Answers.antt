use Rattle.std.proofs.Common.{◌-◌, ◌∙◌, arith, ap, length, slice_index}
use Rattle.sparse_pattern.specs.Raw.{end_of}
use Rattle.sparse_factor.proofs.SharedRows.{first_within, four_updated, offset_within, rows_within}
use Rattle.sparse_factor.proofs.ldl.updates.subtract_four.Goals as goal

pub advance_four-at-requires-clause-fits : goal.advance_four-at-requires-clause-fits
advance_four-at-requires-clause-fits g c =
    omega (
      arith,
      offset_within c.minor_indices-rows.ensures.valid c.requires.cursor,
      ap length c.minor_indices-rows.ensures.indices,
    )

pub scales_of-scales-requires-clause-first : goal.scales_of-scales-requires-clause-first
scales_of-scales-requires-clause-first g c =
    let within = offset_within c.minor_indices-rows.ensures.valid c.requires.cursor in
    omega (arith, within, c.advance_four-at.ensures.first, c.requires.fits)

pub scales_of-scales-requires-clause-second : goal.scales_of-scales-requires-clause-second
scales_of-scales-requires-clause-second g c =
    let need = c.requires in
    let n = end_of c.args.pattern.now c.args.k - slice_index c.args.cursors.now c.args.k in
    let within = first_within c.minor_indices-rows.ensures.valid (omega (arith, need.lanes))
    need.second n (omega (arith, need.cursor.to)) in
    omega (arith, within, c.advance_four-at.ensures.second, need.fits, need.cursor.to)

pub scales_of-scales-requires-clause-third : goal.scales_of-scales-requires-clause-third
scales_of-scales-requires-clause-third g c =
    let need = c.requires in
    let n = end_of c.args.pattern.now c.args.k - slice_index c.args.cursors.now c.args.k in
    let within = first_within c.minor_indices-rows.ensures.valid (omega (arith, need.lanes))
    need.third n (omega (arith, need.cursor.to)) in
    omega (arith, within, c.advance_four-at.ensures.third, need.fits, need.cursor.to)

pub scales_of-scales-requires-clause-fourth : goal.scales_of-scales-requires-clause-fourth
scales_of-scales-requires-clause-fourth g c =
    let need = c.requires in
    let n = end_of c.args.pattern.now c.args.k - slice_index c.args.cursors.now c.args.k in
    let within = first_within c.minor_indices-rows.ensures.valid need.lanes need.fourth n
    (omega (arith, need.cursor.to)) in
    omega (arith, within, c.advance_four-at.ensures.fourth, need.fits, need.cursor.to)

pub add_shared-requires-clause-inside : goal.add_shared-requires-clause-inside
add_shared-requires-clause-inside g c =
    let need = c.requires in
    let n = end_of c.args.pattern.now c.args.k - slice_index c.args.cursors.now c.args.k in
    rw (
      c.minor_indices-rows.ensures.indices,
      c.major_offsets-offsets.ensures.offsets,
      c.advance_four-at.ensures.first,
      need.rows,
    ) (rows_within c.minor_indices-rows.ensures.valid need.cursor n
    (omega (arith, need.cursor.to)))

pub returns-clause-updated : goal.returns-clause-updated
returns-clause-updated g c =
    let need = c.requires in
    let n = end_of c.args.pattern.now c.args.k - slice_index c.args.cursors.now c.args.k in
    let at = c.advance_four-at.ensures in
    let scale = c.scales_of-scales.ensures in
    let ends = c.major_offsets-offsets.ensures.offsets in
    let x = c.args.column.now in
    let long1 = c.add_shared.auto.column in
    let long2 = c.add_column.auto.column ∙ long1 in
    let long3 = c.add_column-2.auto.column ∙ long2 in
    four_updated g.T.Ring.ring g.T.Ring.value g.T.Zero.zero_value c.minor_indices-rows.ensures.valid
    c.args.values.now need.fits c.args.k need.lanes c.args.cursors.now need.cursor need.second
    need.third need.fourth n (omega (arith, need.cursor.to)) x c.add_shared.new.column
    c.add_column.new.column c.add_column-2.new.column c.add_column-3.new.column
    (rw (
      c.minor_indices-rows.ensures.indices,
      ends,
      at.first,
      at.second,
      at.third,
      at.fourth,
    ) at c.add_shared.ensures) (rw at.first at scale.first) (rw at.second at scale.second)
    (rw at.third at scale.third) (rw at.fourth at scale.fourth) long1 long2 long3
    (rw (ends, at.first, at.second) at c.add_column.ensures)
    (rw (ends, at.first, at.third) at c.add_column-2.ensures)
    (rw (ends, at.first, at.fourth) at c.add_column-3.ensures)
