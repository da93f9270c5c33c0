use Rattle.std.proofs.Common.{◌≡◌, sym, ◌∙◌, rules, refl, to_z, of_z}
use Rattle.std.specs.Int.{w32}
use Rattle.sparse_c.proofs.HeldMatrices.{task_finds_fault}
use Rattle.sparse_c.specs.Rooms.{held_in}
use Rattle.sparse_c.specs.Tasks.{result_of}
use Rattle.c_arrays.proofs.Answering.{rows_answered, seen_rows}
use Rattle.c_arrays.specs.Arrays.{output_arrays}
use Rattle.sparse_c.proofs.handles.rings.tasks.TaskCallOutputArrays.run.Goals as goal

pub returns : goal.returns
returns g c =
    let status = c.finish_rows.result in
    let same : to_z w32 (of_z w32 status) ≡ status = search rules in
    let task = c.args.self in
    let ensured = c.computed-answer.ensures in
    let ended = c.finish_rows.ensures in
    let new = c.finish_rows.new in
    let left = output_arrays new.offsets new.indices new.values new.places in
    record {
      answer = seen_rows same (rows_answered g.T.Ring.ring g.T.Ring.value
          (result_of g.T.Ring.ring task) (task_finds_fault task) (held_in c.args.out.now) left status
          c.computed-answer.result ensured.plain ensured.sound ensured.fault ended.written ended.rest
          ended.untouched ended.needed ended.kept ended.refused);
      shown = record { each = λ h. ended.shown (sym same ∙ h) };
      arrays = record { offsets = refl; indices = refl; values = refl; places = refl };
    }
