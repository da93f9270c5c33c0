use Rattle.std.proofs.Common.{◌≡◌, ◌<◌, ℕ, List, length, get_or, Contains, ap, sym, subst, ◌∙◌}
use Rattle.sparse_pattern.specs.Raw.{lane_of}
use Rattle.sparse_dense_ops.proofs.BelowDiagonal.{column_found, not_stored}
use Rattle.sparse_dense_ops.proofs.BelowDiagonal.{value_read, value_stored}
use Rattle.sparse_dense_ops.proofs.solve.column.column_below.Goals as goal

pub returns-in_err-at-clause-none : goal.returns-in_err-at-clause-none
returns-in_err-at-clause-none g c =
    let m = c.args.l.now in
    let k = c.args.k in
    let lane = rw c.cs.ensures.core at c.lane_slices.ensures in
    let none : Contains (lane_of m.pattern k) k → ⊥ = rw (← lane.indices) c.in_err-at.ensures in
    rw c.from_residual.ensures (λ pivot. not_stored g.T.Ring.ring g.T.Ring.value g.T.Zero.zero_value
    m lane.sound k c.requires k none pivot.0)

pub returns-in_err-inverse-clause-none : goal.returns-in_err-inverse-clause-none
returns-in_err-inverse-clause-none g c =
    let R = g.T.Ring.ring in
    let f = g.T.Ring.value in
    let z = g.T.Zero.zero_value in
    let m = c.args.l.now in
    let k = c.args.k in
    let at = c.in_ok-at.at in
    let lane = rw c.cs.ensures.core at c.lane_slices.ensures in
    let lt : at < length (lane_of m.pattern k) = subst (λ (rs : List ℕ). at < length rs)
    lane.indices c.in_ok-at.ensures.0 in
    let is : get_or (lane_of m.pattern k) at 0 ≡ k = subst (λ (rs : List ℕ). get_or rs at 0 ≡ k)
    lane.indices c.in_ok-at.ensures.1 in
    let read = value_read R f z m lane.sound k c.requires c.lane_slices.result.1.now lane.values at
    lt c.index-values-at.result c.index-values-at.is in
    let stored = value_stored R f z m lane.sound k c.requires k at lt is in
    rw c.from_residual-in_err-inverse.ensures (λ pivot.
    let found = c.in_err-inverse.ensures.exact.1
    (pivot.1.0, ap (λ v. R.mul v (f pivot.1.0)) (ap f read ∙ sym stored) ∙ pivot.1.1) in
    cc)

pub returns-clause-some : goal.returns-clause-some
returns-clause-some g c =
    let lane = rw c.cs.ensures.core at c.lane_slices.ensures in
    column_found g.T.Ring.ring g.T.Ring.value g.T.Zero.zero_value c.args.l.now lane.sound c.args.k
    c.requires c.lane_slices.result.0.now c.lane_slices.result.1.now lane.indices lane.values
    c.in_ok-at.at c.in_ok-at.ensures.0 c.in_ok-at.ensures.1 c.in_ok-inverse.inverse
    c.index-values-at.result c.index-values-at.is c.in_ok-inverse.ensures.inverse
