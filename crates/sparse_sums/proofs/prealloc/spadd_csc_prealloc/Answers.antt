use Rattle.std.proofs.Common.{true, false, refl}
use Rattle.sparse_sums.proofs.Updating.{cols_summed}
use Rattle.sparse_sums.proofs.prealloc.spadd_csc_prealloc.Goals as goal

pub returns-in-NoOp : goal.returns-in-NoOp
returns-in-NoOp g c =
    let f = g.T.Ring.value in
    let borrowed = c.pattern_and_values_mut-values.ensures in
    let done = c.add_into.ensures in
    let summed = cols_summed g.T.Ring.ring f g.T.Zero.zero_value c.values.ensures.sound
    done.sound c.cs.ensures.core borrowed.pattern borrowed.values false c.add_into.result
    (f c.args.beta) (f c.args.alpha) c.add_into.new.values done.covered done.count
    done.unchanged done.added in
    rw c.in-NoOp.is (record {
      covered = summed.covered;
      kind = done.kind;
      unchanged = summed.unchanged;
      pattern = refl;
      updated = summed.updated;
    })

pub returns-in-Transpose : goal.returns-in-Transpose
returns-in-Transpose g c =
    let f = g.T.Ring.value in
    let borrowed = c.pattern_and_values_mut-values.ensures in
    let done = c.add_into-in-Transpose.ensures in
    let summed = cols_summed g.T.Ring.ring f g.T.Zero.zero_value c.values.ensures.sound
    done.sound c.cs-in-Transpose.ensures.core borrowed.pattern borrowed.values true
    c.add_into-in-Transpose.result (f c.args.beta) (f c.args.alpha)
    c.add_into-in-Transpose.new.values done.covered done.count done.unchanged done.added in
    rw c.in-Transpose.is (record {
      covered = summed.covered;
      kind = done.kind;
      unchanged = summed.unchanged;
      pattern = refl;
      updated = summed.updated;
    })
