use Rattle.std.proofs.Common.{◌+◌, ◌<◌, set, sym, subst, arith}
use Rattle.reference_models.specs.InnerEquations.{AreFirstFactors}
use Rattle.reference_models.proofs.Equations.{next_factors, no_columns}
use Rattle.reference_models.proofs.ldl.find_columns.Goals as goal

pub returns-in_default-clause-none : goal.returns-in_default-clause-none
returns-in_default-clause-none g c = λ _.
    let R = g.T.Ring.ring in
    let f = g.T.Ring.value in
    let lt : c.loop-j.j < c.args.a.now.nrows =
    omega (arith, c.loop-j-test.true, c.nrows-j-end.ensures) in
    no_columns R f g.T.Zero.zero_value g.met.T.Ring.zero_law c.args.a.now c.loop-j.l c.loop-j.d
    c.loop-j.j lt c.find_left-pivot.result c.loop-j.invariant c.find_left-pivot.ensures
    (λ h. let some = c.in_default.ensures.exact.1 h in cc)

pub loop-j-preserved : goal.loop-j-preserved
loop-j-preserved g c =
    let R = g.T.Ring.ring in
    let f = g.T.Ring.value in
    let z = g.T.Zero.zero_value in
    let a = c.args.a.now in
    let j = c.loop-j.j in
    let p = c.find_left-pivot.result in
    let lt : j < a.nrows = omega (arith, c.loop-j-test.true, c.nrows-j-end.ensures) in
    subst (λ l. AreFirstFactors R f z a l (set c.loop-j.d j p) (j + 1)) (sym c.set.ensures.exact)
    (next_factors R f z g.met.T.Ring.zero_law a c.loop-j.l c.loop-j.d j lt p c.loop-j.invariant
    c.find_left-pivot.ensures c.in-Some.inverse c.one.result c.divide_column.new.l
    c.in-Some.ensures.inverse c.one.ensures c.divide_column.ensures)
