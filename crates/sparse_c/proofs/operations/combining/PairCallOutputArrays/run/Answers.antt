use Rattle.std.proofs.Common.{◌≡◌, pos, sym, subst, ◌∙◌, rules, refl, to_z, of_z}
use Rattle.std.specs.Int.{w32}
use Rattle.sparse_algebra.specs.Integers.{element_of}
use Rattle.sparse_c.proofs.Combined.{rows-combined, sum_answered}
use Rattle.sparse_c.specs.Combinations.{combination_of}
use Rattle.sparse_c.specs.Rooms.{held_in}
use Rattle.c_arrays.proofs.Answering.{rows_answered, seen_rows}
use Rattle.c_arrays.proofs.ValidStatuses.{pair_finds_fault}
use Rattle.c_arrays.specs.Arrays.{plain_by_rows, output_arrays, HoldsRows}
use Rattle.c_arrays.specs.Rests.{KeepsRest}
use Rattle.sparse_c.proofs.operations.combining.PairCallOutputArrays.run.Goals as goal

pub returns : goal.returns
returns g c =
    let status = c.finish_rows.result in
    let same : to_z w32 (of_z w32 status) ≡ status = search rules in
    let p = c.args.self in
    let ensured = c.combined-answer.ensures in
    let ended = c.finish_rows.ensures in
    let new = c.finish_rows.new in
    let left = output_arrays new.offsets new.indices new.values new.places in
    record {
      answer = seen_rows same (rows_answered g.T.Ring.ring g.T.Ring.value
          (combination_of g.T.Ring.ring p) (pair_finds_fault p.a p.b) (held_in c.args.out.now) left status
          c.combined-answer.result ensured.plain ensured.sound ensured.fault ended.written ended.rest
          ended.untouched ended.needed ended.kept ended.refused);
      shown = record { each = λ h. ended.shown (sym same ∙ h) };
      arrays = record { offsets = refl; indices = refl; values = refl; places = refl };
    }

-- ---- a sum that is merged straight into the output arrays

pub returns-then-most-out-2 : goal.returns-then-most-out-2
returns-then-most-out-2 g c =
    let status = c.write_sum.result in
    let same : to_z w32 (of_z w32 status) ≡ status = search rules in
    let R = g.T.Ring.ring in
    let p = c.args.self in
    let ensured = c.write_sum.ensures in
    let new = c.write_sum.new in
    let old = held_in c.args.out.now in
    let left = output_arrays new.offsets new.indices new.values new.places in
    let written : status ≡ pos 0 → HoldsRows (combination_of R p) left = search rules in
    record {
      answer = seen_rows same (sum_answered (combination_of R p) p.a p.b old left status written
          (λ h. subst (λ n. KeepsRest n old left) (sym (rows-combined R p.how
          (element_of R p.alpha) (plain_by_rows R p.a) (element_of R p.beta) (plain_by_rows R p.b)))
          (ensured.rest h)) ensured.sound ensured.untouched ensured.fault);
      shown = record { each = λ h. ensured.shown (sym same ∙ h) };
      arrays = record { offsets = refl; indices = refl; values = refl; places = refl };
    }
