use Rattle.std.proofs.Common.{arith, slice_index, refl}
use Rattle.std.proofs.lemmas.List.{get_or_default}
use Rattle.sparse_factor.proofs.AddedFour.{four_none, four_more, four_all}
use Rattle.sparse_factor.proofs.ldl.updates.add_four.Goals as goal

pub loop-at-init : goal.loop-at-init
loop-at-init g c = four_none

pub loop-at-preserved : goal.loop-at-preserved
loop-at-preserved g c =
    let lt = c.loop-at-test.true in
    let k = slice_index c.args.rows.now c.loop-at.at in
    let within = c.requires.inside c.loop-at.at 0 lt in
    let e = c.add-in-loop-at.ensures in
    let e1 = c.add.ensures in
    let e2 = c.add-sum.ensures in
    let e3 = c.add-more.ensures in
    let m1 = c.mul.ensures in
    let m2 = c.mul-in-loop-at.ensures in
    let m3 = c.mul-in-loop-at-2.ensures in
    let m4 = c.mul-in-loop-at-3.ensures in
    four_more c.requires.first c.requires.second c.requires.third c.requires.fourth
    c.loop-at.invariant lt (get_or_default c.args.rows.now c.loop-at.at 0 k lt)
    c.index-first-at.is c.index-second-at.is c.index-third-at.is c.index-fourth-at.is
    c.index-column-rows.result (omega (arith, within, c.loop-at.auto.column)) c.loop-at.auto.column
    (rw (e, e1, e2, e3, m1, m2, m3, m4) refl)

pub returns : goal.returns
returns g c = four_all c.requires.first c.requires.second c.requires.third c.requires.fourth
    c.loop-at.invariant c.loop-at-test.false
