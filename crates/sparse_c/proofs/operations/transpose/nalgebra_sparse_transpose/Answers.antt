use Rattle.std.proofs.Common.{◌≡◌, rules, to_z, of_z}
use Rattle.std.specs.Int.{w32}
use Rattle.sparse_algebra.specs.Plain.{plain_transpose}
use Rattle.sparse_algebra.specs.WrappingValues.{w64_value}
use Rattle.sparse_compressed.specs.Compressed.{arrays_of}
use Rattle.c_arrays.proofs.Answering.{rows_answered, seen_rows}
use Rattle.c_arrays.proofs.ValidStatuses.{matrix_finds_fault}
use Rattle.c_arrays.specs.Arrays.{plain_by_rows, ring64, output_arrays}
use Rattle.sparse_c.proofs.operations.transpose.nalgebra_sparse_transpose.Goals as goal

pub returns : goal.returns
returns c =
    let status = c.finish_rows.result in
    let same : to_z w32 (of_z w32 status) ≡ status = search rules in
    let x = c.args in
    let a = arrays_of x.rows x.cols x.offsets.now x.indices.now x.values.now in
    let p = plain_transpose ring64 (plain_by_rows ring64 a) in
    let ensured = c.transposed-answer.ensures in
    let ended = c.finish_rows.ensures in
    let new = c.finish_rows.new in
    let old = output_arrays x.out_offsets.now x.out_indices.now x.out_values.now x.out_places.now in
    let left = output_arrays new.offsets new.indices new.values new.places in
    record {
      answered = seen_rows same (rows_answered ring64 w64_value p (matrix_finds_fault a) old left status
          c.transposed-answer.result ensured.plain ensured.sound ensured.fault ended.written ended.rest
          ended.untouched ended.needed ended.kept ended.refused);
    }
