use Rattle.std.proofs.Common.{◌≡◌, true, false, not, sym, subst, ◌∙◌}
use Rattle.sparse_compressed.specs.Compressed.{lane_triplets}
use Rattle.mtxkit_matrices.proofs.FirstDifferences.{all_zero, first_found, is_true, not_both, one_more}
use Rattle.mtxkit_matrices.proofs.values.first_nonzero.Goals as goal

pub returns-then-ne : goal.returns-then-ne
returns-then-ne g c =
    let v = c.in-Some.value.now in
    let E = g.T.PartialEq.eq in
    let z = g.T.Zero.zero_value in
    let test : true ≡ not (E v z) = subst (λ w. true ≡ not (E v w)) c.zero.ensures c.if-ne.ensures in
    first_found g.T.Ring.ring g.T.Ring.value z c.args.matrix.now
    c.triplet_iter-row-items.ensures.sound _ _ _ c.in-Some.ensures.steps
    (λ zero. not_both (E v z) ((g.met.T.Ring.eq_law v z).1 (zero ∙ sym g.met.T.Ring.zero_law)) test)
    c.loop-row.invariant

pub loop-row-preserved : goal.loop-row-preserved
loop-row-preserved g c =
    let v = c.in-Some.value.now in
    let E = g.T.PartialEq.eq in
    let z = g.T.Zero.zero_value in
    let test : false ≡ not (E v z) = subst (λ w. false ≡ not (E v w)) c.zero.ensures c.if-ne.ensures in
    one_more g.T.Ring.ring g.T.Ring.value (lane_triplets c.args.matrix.now) _ _ _
    c.in-Some.ensures.steps
    ((g.met.T.Ring.eq_law v z).0 (is_true (E v z) test) ∙ g.met.T.Ring.zero_law) c.loop-row.invariant

pub returns : goal.returns
returns g c =
    all_zero g.T.Ring.ring g.T.Ring.value g.T.Zero.zero_value c.args.matrix.now
    c.triplet_iter-row-items.ensures.sound _ c.in-None.ensures.steps.0 c.loop-row.invariant
