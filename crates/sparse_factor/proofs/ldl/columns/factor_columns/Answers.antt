use Rattle.std.proofs.Common.{◌≡◌, length, drop, ap, sym, subst, ◌∙◌, arith}
use Rattle.std.proofs.Math.Seq.{take-append_seam}
use Rattle.sparse_compressed.specs.PlainOfLanes.{plain_of_cols}
use Rattle.sparse_factor.specs.InnerFactors.{ArePartFactors}
use Rattle.sparse_factor.proofs.ColumnSteps.{column_updated, step_done, step_singular}
use Rattle.sparse_factor.proofs.ldl.columns.factor_columns.Goals as goal

pub returns-in_default-clause-singular : goal.returns-in_default-clause-singular
returns-in_default-clause-singular g c = λ m d part.
    let done = c.loop-j.invariant in
    let lt = c.loop-j-test.true in
    let added = c.axpy_csc_col in
    let left = c.update_column.ensures in
    let at = column_updated done added.ensures.sound
    (omega (arith, lt, c.loop-j.auto.inverses, done.count)) added.new.y
    c.update_column.new.column c.one.ensures added.ensures.added added.auto.y left.rows left.left
    left.above in
    let size = c.requires.rows
    ∙ ap (λ p. p.major_dim) (sym c.pattern_and_values_mut-values.ensures.pattern) in
    step_singular at c.index-column-j.is
    (λ h. let some = c.in_default.ensures.exact.1 h in cc) m d
    (subst (λ n. ArePartFactors g.T.Ring.ring g.T.Ring.value n n
    (plain_of_cols g.T.Ring.ring g.T.Ring.value c.args.lower.now).value m d) size part)

pub loop-j-preserved : goal.loop-j-preserved
loop-j-preserved g c =
    let done = c.loop-j.invariant in
    let lt = c.loop-j-test.true in
    let added = c.axpy_csc_col in
    let left = c.update_column.ensures in
    let at = column_updated done added.ensures.sound
    (omega (arith, lt, c.loop-j.auto.inverses, done.count)) added.new.y
    c.update_column.new.column c.one.ensures added.ensures.added added.auto.y left.rows left.left
    left.above in
    step_done at c.index-column-j.is c.in-Some.ensures.inverse c.gather_column.ensures.gathered
    left.cursors left.count

pub returns-clause-factors : goal.returns-clause-factors
returns-clause-factors g c =
    let borrowed = c.pattern_and_values_mut-values in
    let done = c.loop-j.invariant in
    let all : c.loop-j.j ≡ borrowed.result.0.now.major_dim = omega (
      arith,
      c.loop-j-test.false,
      c.loop-j.auto.j-end,
      c.loop-j.auto.inverses,
      done.count,
    ) in
    let long : length c.args.l.now.values ≡ length c.loop-j.values =
    omega (arith, c.loop-j.auto.values, ap length borrowed.ensures.values) in
    let rest = drop (length c.loop-j.values) c.args.l.now.values in
    rw (
      long,
      take-append_seam c.loop-j.values rest,
      c.requires.rows,
      ← borrowed.ensures.pattern,
    ) (rw all at done.factors)
