use Rattle.std.proofs.Common.{◌≡◌, ◌<◌, get_or, ap, ◌∙◌, arith}
use Rattle.sparse_sums.specs.InnerAdding.{IsLane}
use Rattle.sparse_sums.proofs.Adding.{none_added, adding_first, adding_second, adding_both}
use Rattle.sparse_sums.proofs.merge.merge_until_end.Goals as goal
use Rattle.sparse_sums.proofs.merge.merge_until_end.Goals.{then-j-k, else-j-k}

pub loop-p-init : goal.loop-p-init
loop-p-init g c =
    let R = g.T.Ring.ring in
    let f = g.T.Ring.value in
    let output = c.args.output.now in
    record {
      first = omega arith;
      second = omega arith;
      room = omega arith;
      added = none_added R (g.O.Output.indices output) (g.O.Output.elements R f output)
          c.indices-a_indices.result.now (g.A.Operand.elements R f c.args.a.now)
          c.indices-b_indices.result.now (g.B.Operand.elements R f c.args.b.now);
      kept = g.met.O.Output.keeps_same output;
    }

pub loop-p-preserved-then-k-j : goal.loop-p-preserved-then-k-j
loop-p-preserved-then-k-j g c =
    let R = g.T.Ring.ring in
    let f = g.T.Ring.value in
    let a = c.indices-a_indices.result.now in
    let av = g.A.Operand.elements R f c.args.a.now in
    let b = c.indices-b_indices.result.now in
    let bv = g.B.Operand.elements R f c.args.b.now in
    let la : IsLane a av = rw c.indices-a_indices.ensures c.requires.a_lane in
    let lb : IsLane b bv = rw c.indices-b_indices.ensures c.requires.b_lane in
    let p = c.loop-p.p in
    let q = c.loop-p.q in
    let x = c.min.result in
    let v = f c.merged_value.result in
    let inv = c.loop-p.invariant in
    let front = c.merged_value.ensures in
    let push = c.push.ensures in
    let kept = g.met.O.Output.keeps_then _ _ _ inv.kept push.kept in
    elim c.if-j-k.branch [
      | then-j-k w ↦
          let same : get_or a p 0 ≡ get_or b q 0 = omega arith in
          let least : x ≡ get_or a p 0 = omega (arith, c.min.ensures) in
          let next = adding_both R _ _ a av b bv _ _ p q la lb inv.added x v (omega arith)
          (omega arith) least (least ∙ same) (f c.value-first.result) (f c.value-second.result)
          c.value-first.ensures c.value-second.ensures (front.sum same) in
          record {
            first = omega arith;
            second = omega arith;
            room = omega (arith, inv.room, push.room, w.p-is);
            added = rw (push.indices, push.elements, w.p-is) next;
            kept = kept;
          }
      | else-j-k w ↦
          let later : get_or b q 0 < get_or a p 0 = omega arith in
          let least : x ≡ get_or b q 0 = omega (arith, c.min.ensures) in
          let next = adding_second R _ _ a av b bv _ _ p q la lb inv.added x v (omega arith) least
          (λ _. omega (arith, least)) (ap f (front.second later) ∙ c.value-second.ensures) in
          record {
            first = omega arith;
            second = omega arith;
            room = omega (arith, inv.room, push.room, w.p-is);
            added = rw (push.indices, push.elements, w.p-is) next;
            kept = kept;
          }
    ]

pub loop-p-preserved : goal.loop-p-preserved
loop-p-preserved g c =
    let R = g.T.Ring.ring in
    let f = g.T.Ring.value in
    let a = c.indices-a_indices.result.now in
    let av = g.A.Operand.elements R f c.args.a.now in
    let b = c.indices-b_indices.result.now in
    let bv = g.B.Operand.elements R f c.args.b.now in
    let la : IsLane a av = rw c.indices-a_indices.ensures c.requires.a_lane in
    let lb : IsLane b bv = rw c.indices-b_indices.ensures c.requires.b_lane in
    let p = c.loop-p.p in
    let q = c.loop-p.q in
    let x = c.min.result in
    let v = f c.merged_value.result in
    let inv = c.loop-p.invariant in
    let push = c.push.ensures in
    elim c.if-j-k.branch [
      | then-j-k w ↦
          let later : get_or a p 0 < get_or b q 0 = omega arith in
          let least : x ≡ get_or a p 0 = omega (arith, c.min.ensures) in
          let next = adding_first R _ _ a av b bv _ _ p q la lb inv.added x v (omega arith) least
          (λ _. omega (arith, least))
          (ap f (c.merged_value.ensures.first later) ∙ c.value-first.ensures) in
          record {
            first = omega arith;
            second = omega arith;
            room = omega (arith, inv.room, push.room, w.p-is);
            added = rw (push.indices, push.elements, w.p-is) next;
            kept = g.met.O.Output.keeps_then _ _ _ inv.kept push.kept;
          }
      | else-j-k w ↦ absurd (omega arith)
    ]
