use Rattle.std.proofs.Common.{inl, inr, arith}
use Rattle.std.proofs.lemmas.Bool.{cases_lt}
use Rattle.mtxkit_matrices.proofs.LeastScales.{next_larger, none_above, none_below}
use Rattle.mtxkit_matrices.proofs.decimals.search.least_scale.Goals as goal

pub loop-written-preserved : goal.loop-written-preserved
loop-written-preserved c = none_below c.args.text.now c.loop-written.scale _
    c.in-Err.ensures.refused _ (rw c.in-Some.is at c.in_ok-next.ensures.next)

pub loop-written-smaller : goal.loop-written-smaller
loop-written-smaller c =
    let lt = next_larger c.args.text.now c.loop-written.scale _ c.in-Err.ensures.refused _
    (rw c.in-Some.is at c.in_ok-next.ensures.next) in
    omega (arith, lt)

pub returns-in-None : goal.returns-in-None
returns-in-None c = λ other low. elim (cases_lt other c.loop-written.scale) [
  | inl lt ↦ c.loop-written.invariant other lt
  | inr le ↦ none_above c.args.text.now c.loop-written.scale other le low _
      c.in-Err.ensures.refused (rw c.in-None.is at c.in_ok-next.ensures.next)
      c.in_ok-next.ensures.why
]
