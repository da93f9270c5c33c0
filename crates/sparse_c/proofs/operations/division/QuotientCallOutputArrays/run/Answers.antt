use Rattle.std.proofs.Common.{◌≡◌, sym, ◌∙◌, rules, refl, to_z, of_z}
use Rattle.std.proofs.lemmas.Int.{to_z-of_z}
use Rattle.std.specs.Int.{w32, w64}
use Rattle.sparse_c.proofs.Quotients.{quotient_answered, seen_quotient}
use Rattle.sparse_c.specs.Rooms.{held_in}
use Rattle.sparse_c.specs.Scalars.{scalars}
use Rattle.c_arrays.specs.Arrays.{output_arrays}
use Rattle.sparse_c.proofs.operations.division.QuotientCallOutputArrays.run.Goals as goal

pub returns : goal.returns
returns g c =
    let status = c.finish_rows.result in
    let same : to_z w32 (of_z w32 status) ≡ status = search rules in
    let R = g.T.Ring.ring in
    let f = g.T.Ring.value in
    let q = c.args.self in
    let ensured = c.quotient_of-answer.ensures in
    let ended = c.finish_rows.ensures in
    let new = c.finish_rows.new in
    let left = output_arrays new.offsets new.indices new.values new.places in
    record {
      answer = seen_quotient (scalars R f g.T.Number.is_shown)
          (sym (to_z-of_z w64 q.divisor q.in_range)) same (quotient_answered R f q.a _
          (held_in c.args.out.now) left status c.quotient_of-answer.result ensured.quotient ensured.sound
          ensured.fault ended.written ended.rest ended.untouched ended.needed ended.kept
          ended.refused);
      shown = record { each = λ h. ended.shown (sym same ∙ h) };
      arrays = record { offsets = refl; indices = refl; values = refl; places = refl };
    }
