use Rattle.std.proofs.Common.{◌≡◌, ◌+◌, length, get_or, take, ap, ◌∙◌, arith}
use Rattle.std.proofs.lemmas.List.{get_or_default, take_all}
use Rattle.sparse_compressed.specs.InnerLaneValue.{lane_value}
use Rattle.sparse_sums.proofs.InOrder.{none_added, adding_hit, adding_miss, all_found}
use Rattle.sparse_sums.proofs.in_order.add_lane.Goals as goal
use Rattle.sparse_sums.proofs.in_order.add_lane.Goals.{then-k-lane+then-target-p, else-k-lane}
use Rattle.sparse_sums.proofs.in_order.add_lane.Goals.{else-k-lane-via-then-k-lane+else-target-p}
use Rattle.sparse_sums.proofs.in_order.add_lane.Goals.{else-k-lane-via-else-k-lane}

pub loop-p-init : goal.loop-p-init
loop-p-init g c = none_added

pub loop-p-preserved : goal.loop-p-preserved
loop-p-preserved g c =
    let R = g.T.Ring.ring in
    let f = g.T.Ring.value in
    let z = g.T.Zero.zero_value in
    let now = c.loop-p.values in
    let at = c.args.start + c.loop-p.p in
    let r = c.requires in
    let inv = c.loop-p.invariant in
    elim c.if-k-lane.branch [
      | then-k-lane+then-target-p w ↦
          let old = w.index-values-start in
          let read = old.is ∙ get_or_default now at old.result z
          (omega (arith, inv.count, r.inside)) in
          let sum = w.add.ensures ∙ ap (λ x. R.add x (f w.mul.result)) (ap f read)
          ∙ ap (R.add (f (get_or now at z))) w.mul.ensures in
          rw (w.values-is, w.k-is) (adding_hit inv (omega arith) r.target_rising r.rising r.count
          r.inside (omega arith) (omega arith) w.index-lane_values-k.is sum)
      | else-k-lane w ↦ rw (w.values-is, w.k-is)
          (adding_miss inv (omega arith) (λ lt same. elim w.else-k-lane.branch [
            | else-k-lane-via-then-k-lane+else-target-p u ↦ absurd (omega arith)
            | else-k-lane-via-else-k-lane u ↦ absurd (omega arith)
          ]))
    ]

pub returns-clause-added : goal.returns-clause-added
returns-clause-added g c = λ m lt.
    let R = g.T.Ring.ring in
    let f = g.T.Ring.value in
    let lane = c.args.lane.now in
    let us = c.args.lane_values.now in
    let k = c.loop-p.k in
    let all : k ≡ length lane =
    (all_found c.loop-p.invariant.passed (omega arith)).1 c.requires.covered in
    let at = get_or c.args.target.now m 0 in
    let start = f (get_or c.args.values.now (c.args.start + m) g.T.Zero.zero_value) in
    c.loop-p.invariant.sums m lt
    ∙ ap (λ l. R.add start (R.mul (f c.args.alpha) (lane_value R f l (take k us) at)))
    (take_all k lane (omega (arith, all)))
    ∙ ap (λ l. R.add start (R.mul (f c.args.alpha) (lane_value R f lane l at)))
    (take_all k us (omega (arith, all, c.requires.count)))
