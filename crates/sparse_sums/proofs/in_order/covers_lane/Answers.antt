use Rattle.std.proofs.Common.{arith}
use Rattle.std.proofs.lemmas.Bool.Decides.{nat_tests}
use Rattle.sparse_sums.proofs.InOrder.{found_hit, found_miss, all_found}
use Rattle.sparse_sums.proofs.in_order.covers_lane.Goals as goal
use Rattle.sparse_sums.proofs.in_order.covers_lane.Goals.{then-k-lane+then-target-p, else-k-lane}
use Rattle.sparse_sums.proofs.in_order.covers_lane.Goals.{else-k-lane-via-then-k-lane+else-target-p}
use Rattle.sparse_sums.proofs.in_order.covers_lane.Goals.{else-k-lane-via-else-k-lane}

pub loop-p-preserved : goal.loop-p-preserved
loop-p-preserved c =
    let inv = c.loop-p.invariant in
    elim c.if-k-lane.branch [
      | then-k-lane+then-target-p w ↦ rw w.k-is
          (found_hit inv (omega arith) c.requires.target_rising c.requires.rising (omega arith)
          (omega arith))
      | else-k-lane w ↦ rw w.k-is (found_miss inv (omega arith) (λ lt same.
          elim w.else-k-lane.branch [
            | else-k-lane-via-then-k-lane+else-target-p v ↦ absurd (omega arith)
            | else-k-lane-via-else-k-lane v ↦ absurd (omega arith)
          ]))
    ]

pub returns : goal.returns
returns c =
    let all = all_found c.loop-p.invariant (omega arith) in
    (λ h. all.0 (grind (arith, nat_tests, h)), λ h. grind (arith, nat_tests, all.1 h))
