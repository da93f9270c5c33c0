use Rattle.std.proofs.Common.{◌≡◌, ap, sym, subst, ◌∙◌, refl, inr, rules, to_z, of_z}
use Rattle.std.specs.Int.{w32}
use Rattle.c_arrays.specs.Arrays.{output_arrays, HoldsRows}
use Rattle.c_arrays.specs.Refused.{IsTooSmall}
use Rattle.c_handles.proofs.Done.{plain_of_rows-held}
use Rattle.c_handles.proofs.reading.read.Goals as goal

pub returns-then-write_rows-eq0-clause-written : goal.returns-then-write_rows-eq0-clause-written
returns-then-write_rows-eq0-clause-written c =
    let same : to_z w32 (of_z w32 c.write_rows.result) ≡ c.write_rows.result = search rules in
    let new = c.write_rows.new in
    let a = plain_of_rows-held c.args.a.now.value _ _ c.in_ok-a.ensures.value c.deref.ensures in
    subst (λ p. HoldsRows p (output_arrays new.offsets new.indices new.values new.places)) a
    (c.write_rows.ensures.written (sym same ∙ ap (to_z w32) c.if-write_rows-eq0.true))

pub returns-clause-fault : goal.returns-clause-fault
returns-clause-fault c =
    let a = plain_of_rows-held c.args.a.now.value _ _ c.in_ok-a.ensures.value c.deref.ensures in
    inr (inr (
      refl,
      subst (λ p. IsTooSmall p (output_arrays c.args.offsets.now c.args.indices.now
          c.args.values.now c.args.places.now)) a
          (c.write_rows.ensures.small (λ e. c.if-write_rows-eq0.false (ap (of_z w32) e))),
    ))
