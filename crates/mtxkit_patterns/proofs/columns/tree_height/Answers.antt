use Rattle.std.proofs.Common.{◌≡◌, ◌-◌, inl, inr, get_or, length, ap, rules, ◌∙◌, arith}
use Rattle.mtxkit_patterns.specs.Columns.{below_diagonal, rows_below}
use Rattle.mtxkit_patterns.specs.InnerDepths.{depth_above}
use Rattle.mtxkit_patterns.proofs.TreeDepths.{has_depth, depths_more, depths_none}
use Rattle.mtxkit_patterns.proofs.columns.tree_height.Goals.{then-height-depth, else-height-depth}
use Rattle.mtxkit_patterns.proofs.columns.tree_height.Goals as goal

pub loop-done-init : goal.loop-done-init
loop-done-init c =
    let long : length c.in_ok-depths.depths.items ≡ c.major_dim-count.result = search rules in
    depths_none c.args.factor.now c.in_ok-depths.depths.items (long ∙ c.major_dim-count.ensures)

pub depth_above-depth-requires : goal.depth_above-depth-requires
depth_above-depth-requires c =
    let n = c.major_dim-count.ensures in
    let done = c.loop-done-test.true in
    let rows = c.below_diagonal.ensures ∙ ap (below_diagonal _) c.lane.ensures in
    rw (rows, c.deref.ensures.value) (has_depth c.args.factor.now c.major_offsets.ensures.valid
    c.requires.square c.requires.lower (c.major_dim-count.result - 1 - c.loop-done.done)
    (omega (arith, n, done)) c.loop-done.done (omega (arith, n, done)) c.loop-done.depths.items
    c.loop-done.height c.loop-done.invariant (omega (arith, n, c.major_dim-count.type_inv)))

pub loop-done-preserved : goal.loop-done-preserved
loop-done-preserved c =
    let n = c.major_dim-count.ensures in
    let done = c.loop-done-test.true in
    let rows = c.below_diagonal.ensures ∙ ap (below_diagonal _) c.lane.ensures in
    let depth : c.depth_above-depth.result ≡ depth_above (rows_below c.args.factor.now
    (c.major_dim-count.result - 1 - c.loop-done.done)) c.loop-done.depths.items =
    c.depth_above-depth.ensures ∙ ap (λ r. depth_above r c.deref.result.now) rows
    ∙ ap (depth_above _) c.deref.ensures.value in
    let more = depths_more c.args.factor.now c.major_offsets.ensures.valid
    c.requires.square c.requires.lower (c.major_dim-count.result - 1 - c.loop-done.done)
    (omega (arith, n, done)) c.loop-done.done (omega (arith, n, done)) c.loop-done.depths.items
    c.loop-done.height c.loop-done.invariant c.depth_above-depth.result c.if-height-depth.height depth in
    elim c.if-height-depth.branch [
      | then-height-depth w ↦ more (omega (arith, w.height-is, w.if-height-depth.true))
          (omega (arith, w.height-is)) (inr w.height-is)
      | else-height-depth w ↦ more (omega (arith, w.height-is))
          (omega (arith, w.height-is, w.if-height-depth.false)) (inl w.height-is)
    ]

pub returns : goal.returns
returns c =
    let all = c.loop-done.invariant in
    let n = c.major_dim-count.ensures in
    let done = c.loop-done-test.false in
    record {
      bound = λ j lt. (
        get_or c.loop-done.depths.items j 0,
        (
          all.depth j (omega (arith, done, n)) lt,
          all.bound j (omega (arith, done, n)) lt,
        ),
      );
      reached = elim all.reached [
        | inl e ↦ inl (e.0, omega (arith, e.1, done, n))
        | inr e ↦ inr e
      ];
    }
