use Rattle.std.proofs.Common.{◌∙◌, refl, arith}
use Rattle.std.proofs.lemmas.List.{get_or_default}
use Rattle.sparse_compressed.specs.Compressed.{compressed_of}
use Rattle.sparse_factor.proofs.FourEntries.{four_fourth, four_read, four_second, four_third}
use Rattle.sparse_factor.proofs.RowEntries.{none_read, all_read, one_read, row_columns}
use Rattle.sparse_factor.proofs.TransposedRows.{lane_is_row}
use Rattle.sparse_factor.proofs.ldl.columns.update_column.Goals as goal

pub loop-q-init : goal.loop-q-init
loop-q-init g c =
    let need = c.requires in
    record {
      count = refl;
      rows = refl;
      read = none_read _ _ _ {m = compressed_of c.args.pattern.now c.args.values.now}
          (record { valid = c.minor_indices.ensures.valid; count = need.fits })
          need.lower (rw c.lane-row.ensures (lane_is_row c.args.pattern.now c.args.structure.now.rows.now
          need.transposed c.minor_indices-2.ensures.valid c.args.j (omega
          (arith, need.lane, need.transposed.major_dim)))) need.square need.rows need.count
          need.cursors;
    }

pub takes_four-requires-clause-inside : goal.takes_four-requires-clause-inside
takes_four-requires-clause-inside g c = λ r d lt.
    let column = row_columns c.loop-q.invariant.read r lt in
    let same = get_or_default c.lane-row.result.now r d 0 lt in
    let count = c.requires.nested.count in
    omega (arith, column, same, count)

pub subtract_four-requires-clause-second : goal.subtract_four-requires-clause-second
subtract_four-requires-clause-second g c = four_second c.loop-q.column c.loop-q.invariant.read
    c.requires.nested (c.takes_four.ensures c.if-takes_four.true)

pub subtract_four-requires-clause-third : goal.subtract_four-requires-clause-third
subtract_four-requires-clause-third g c = four_third c.loop-q.column c.loop-q.invariant.read
    c.requires.nested (c.takes_four.ensures c.if-takes_four.true)

pub subtract_four-requires-clause-fourth : goal.subtract_four-requires-clause-fourth
subtract_four-requires-clause-fourth g c = four_fourth c.loop-q.column c.loop-q.invariant.read
    c.requires.nested (c.takes_four.ensures c.if-takes_four.true)

pub loop-q-preserved-then-takes_four : goal.loop-q-preserved-then-takes_four
loop-q-preserved-then-takes_four g c =
    let so_far = c.loop-q.invariant in
    record {
      count = c.subtract_four.auto.cursors ∙ so_far.count;
      rows = c.subtract_four.auto.column ∙ so_far.rows;
      read = rw c.subtract_four.ensures.moved (four_read c.loop-q.column so_far.read
          c.requires.nested (c.takes_four.ensures c.if-takes_four.true) so_far.rows
          c.subtract_four.ensures.updated);
    }

pub loop-q-preserved : goal.loop-q-preserved
loop-q-preserved g c =
    let so_far = c.loop-q.invariant in
    record {
      count = c.subtract_one.auto.cursors ∙ so_far.count;
      rows = c.subtract_one.auto.column ∙ so_far.rows;
      read = rw c.subtract_one.ensures.moved (one_read c.loop-q.column c.subtract_one.new.column
          so_far.read c.loop-q-test.true so_far.rows c.subtract_one.ensures.updated
          c.subtract_one.ensures.unchanged);
    }

pub returns-clause-left : goal.returns-clause-left
returns-clause-left g c = all_read c.loop-q.invariant.read c.loop-q-test.false
