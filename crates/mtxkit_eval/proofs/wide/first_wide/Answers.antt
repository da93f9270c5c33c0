use Rattle.std.proofs.Common.{rules}
use Rattle.std.specs.Int.{w64}
use Rattle.std.specs.Int.RustNames.{FitsSigned}
use Rattle.sparse_algebra.specs.WrappingValues.{w128_number}
use Rattle.sparse_compressed.specs.Compressed.{lane_triplets}
use Rattle.mtxkit_eval.proofs.FirstWide.{all-narrow, first-wide, narrow-more}
use Rattle.mtxkit_eval.proofs.wide.first_wide.Goals as goal

pub returns-then-is_err-clause-first : goal.returns-then-is_err-clause-first
returns-then-is_err-clause-first c =
    let wide : FitsSigned w64 (w128_number c.in-Some.value.now) → ⊥ = search rules in
    first-wide c.args.matrix.now c.triplet_iter-row-items.ensures.sound _ _ _
    c.in-Some.ensures.steps wide c.loop-row.invariant

pub loop-row-preserved : goal.loop-row-preserved
loop-row-preserved c =
    let narrow : FitsSigned w64 (w128_number c.in-Some.value.now) = search rules in
    narrow-more (lane_triplets c.args.matrix.now) _ _ _ c.in-Some.ensures.steps narrow
    c.loop-row.invariant

pub returns-clause-none : goal.returns-clause-none
returns-clause-none c = λ none.
    all-narrow c.args.matrix.now c.triplet_iter-row-items.ensures.sound _
    c.in-None.ensures.steps.0 c.loop-row.invariant
