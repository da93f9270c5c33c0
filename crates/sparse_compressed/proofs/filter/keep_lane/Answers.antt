use Rattle.std.proofs.Common.{◌≡◌, take, arith, refl}
use Rattle.std.proofs.lemmas.Grind.{common_steps}
use Rattle.sparse_compressed.proofs.Kept.{answered, keep_more, leave_more}
use Rattle.sparse_compressed.proofs.filter.keep_lane.Goals.{then-predicate+in_ok-push+in_ok-push-2}
use Rattle.sparse_compressed.proofs.filter.keep_lane.Goals.{else-predicate}
use Rattle.sparse_compressed.proofs.filter.keep_lane.Goals as goal

pub loop-at-preserved : goal.loop-at-preserved
loop-at-preserved g c = elim c.if-predicate.branch [
  | then-predicate+in_ok-push+in_ok-push-2 w ↦
      rw (
        w.kept_indices-is,
        w.kept_values-is,
        w.in_ok-push.ensures.items,
        w.in_ok-push-2.ensures.items,
      )
      (keep_more _ c.args.indices.now c.args.values.now c.loop-at.at c.requires.count (omega arith)
      refl c.index-values-at.is c.loop-at.invariant
      (answered g.P.Fn c.predicate.ensures w.if-predicate.true))
  | else-predicate w ↦
      rw (w.kept_indices-is, w.kept_values-is)
      (leave_more _ c.args.indices.now c.args.values.now c.loop-at.at c.requires.count (omega arith)
      refl c.index-values-at.is c.loop-at.invariant
      (answered g.P.Fn c.predicate.ensures w.if-predicate.false))
]

pub returns : goal.returns
returns g c =
    let indices : take c.loop-at.at c.args.indices.now ≡ c.args.indices.now =
    grind (arith, common_steps) in
    let values : take c.loop-at.at c.args.values.now ≡ c.args.values.now =
    grind (arith, common_steps) in
    rw (indices, values) at c.loop-at.invariant

-- ---- written by tools/answer-goals

pub loop-at-init : goal.loop-at-init
loop-at-init g c = grind (arith, common_steps)
