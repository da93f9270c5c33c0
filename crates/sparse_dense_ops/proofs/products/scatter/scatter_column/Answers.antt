use Rattle.std.proofs.lemmas.Grind.{common_steps}
use Rattle.std.proofs.Common.{◌*◌, ◌<◌, length, get_or, ap, sym, ◌∙◌, arith, rules}
use Rattle.std.proofs.lemmas.List.{get_or_default}
use Rattle.sparse_algebra.proofs.RingLemmas.{mul_zero}
use Rattle.sparse_pattern.specs.Raw.{Raw}
use Rattle.sparse_compressed.specs.PlainOfLanes.{plain_of_rows}
use Rattle.sparse_compressed.proofs.LaneValues.{lane_value_is}
use Rattle.sparse_dense_ops.specs.DenseOperands.{op_dense}
use Rattle.sparse_dense_ops.proofs.DotSteps.{term_more}
use Rattle.sparse_dense_ops.proofs.products.scatter.scatter_column.Goals as goal
use Rattle.sparse_dense_ops.proofs.products.scatter.scatter_column.Given.{Over}
use Rattle.sparse_dense_ops.proofs.products.scatter.scatter_column.Goals.{After-lane_slices}

pub loop-k-init : goal.loop-k-init
loop-k-init g c = λ i lt.
    let R = g.T.Ring.ring in
    let f = g.T.Ring.value in
    let scaled = R.mul (f c.args.change.now.beta) (f (get_or c.args.c.now i g.T.Zero.zero_value)) in
    c.scale_values.ensures.each i (omega (arith, lt, c.scale_values.ensures.count))
    ∙ sym (ap (R.add scaled) (mul_zero R (f c.args.change.now.alpha)) ∙ R.laws.add_zero scaled)

pub usaxpy-requires-clause-inside : goal.usaxpy-requires-clause-inside
usaxpy-requires-clause-inside g c = λ q d lt.
    omega (
      arith,
      c.lane_slices.ensures.inside q d lt,
      c.requires.rows,
      c.scale_values.ensures.count,
      c.loop-k.auto.c,
    )

-- the lane of an iteration exists
lane : (g : Over) (c : After-lane_slices g)
    → c.loop-k.k < c.args.change.now.a.now.pattern.major_dim
lane g c = omega (
  arith,
  c.loop-k-test.true,
  c.major_dim-lanes.ensures,
  ap (λ (d : Raw). d.major_dim) c.pattern.ensures.pattern,
)

-- its entry of op(B) is inside the column
within : (g : Over) (c : After-lane_slices g)
    → c.loop-k.k * c.step_of-step.result < length c.column_of-x.result.now
within g c = rw c.step_of-step.ensures
    (c.column_of-x.ensures.inside c.loop-k.k (omega (arith, lane g c, c.requires.inner)))

pub loop-k-preserved : goal.loop-k-preserved
loop-k-preserved g c = λ i lt.
    let R = g.T.Ring.ring in
    let f = g.T.Ring.value in
    let z = g.T.Zero.zero_value in
    let change = c.args.change.now in
    let at = (goal.at.loop-k-preserved g c).After-lane_slices in
    let k = c.loop-k.k in
    let place = k * c.step_of-step.result in
    let xs = c.column_of-x.result.now in
    let entry = rw (← c.step_of-step.ensures) at c.column_of-x.ensures.entries in
    let read = c.index-x-k.is ∙ get_or_default xs place c.index-x-k.result z (within g at) in
    let now = c.loop-k.c in
    let inside : i < length now = omega (arith, lt, c.usaxpy.auto.y) in
    let slices = c.lane_slices.ensures in
    let added = rw (slices.indices, slices.values) at c.usaxpy.ensures in
    term_more R (λ k. (plain_of_rows R f change.a.now).value k i)
    (λ k. (op_dense R f change.b).value k c.args.j)
    (c.loop-k.invariant i inside)
    (added i inside ∙ ap (λ v. R.add (f (get_or now i z)) (R.mul (f c.mul-scale.result) v))
    (lane_value_is R f z change.a.now slices.sound k (lane g at) i))
    (c.mul-scale.ensures ∙ ap (R.mul (f change.alpha))
    (ap f read ∙ entry k (omega (arith, lane g at, c.requires.inner))))

pub overflow_mul-k : goal.overflow_mul-k
overflow_mul-k g c = search (rules, within g (goal.at.overflow_mul-k g c).After-lane_slices)

pub bounds-x-k : goal.bounds-x-k
bounds-x-k g c = within g (goal.at.bounds-x-k g c).After-lane_slices

pub offset_bounds-x-k : goal.offset_bounds-x-k
offset_bounds-x-k g c = search (rules, within g (goal.at.offset_bounds-x-k g c).After-lane_slices)

pub returns : goal.returns
returns g c = grind (arith, common_steps)
