use Rattle.std.proofs.Common.{◌≡◌, ◌<◌, length, get_or, sym, ◌∙◌, ap, arith}
use Rattle.std.proofs.lemmas.List.{take_at}
use Rattle.sparse_pattern.specs.Raw.{start_of}
use Rattle.sparse_pattern.proofs.LaneLists.{lane_has}
use Rattle.sparse_products.proofs.ProductSums.{all_steps, no_steps}
use Rattle.sparse_sums.proofs.UpdatedLanes.{lanes_more, lanes_none}
use Rattle.sparse_products.proofs.Updating.{updated_is}
use Rattle.sparse_products.proofs.serial.scatter.scatter_rows.Goals as goal

pub scatter_row-requires-clause-contained : goal.scatter_row-requires-clause-contained
scatter_row-requires-clause-contained g c = λ j h.
    let i = c.loop-i.i in
    c.requires.contained i j h.0 ((lane_has c.args.update.matrices.a.now.pattern
    c.values.ensures.sound.valid i h.0 (omega (arith, c.requires.sizes.lanes))).0 h.1) h.2

pub loop-i-init : goal.loop-i-init
loop-i-init g c =
    let x = c.args.update.matrices in
    record {
      width = omega (arith, c.in_ok-row.ensures.width, c.minor_dim.ensures);
      zero = c.in_ok-row.ensures.zero;
      rows = lanes_none;
      counted = omega (
        arith,
        no_steps x.a.now.pattern x.b.now.pattern c.values.ensures.sound.valid,
        c.major_offsets.ensures.valid.first,
      );
    }

pub loop-i-preserved : goal.loop-i-preserved
loop-i-preserved g c =
    let inv = c.loop-i.invariant in
    let row = c.scatter_row.ensures in
    let left = c.scatter_row.new.row in
    let long : length left ≡ c.loop-i.row.len = c.scatter_row.auto.row ∙ c.deref_mut.ensures.len in
    let lane : c.loop-i.i < c.args.pattern.now.major_dim = omega arith in
    record {
      width = inv.width;
      zero = λ j. ap (λ xs. g.T.Ring.value (get_or xs j g.T.Zero.zero_value))
          (take_at left _ _ long) ∙ row.zero j;
      rows = lanes_more inv.rows c.major_offsets.ensures.valid lane c.scatter_row.new.values
          row.others row.updated;
      counted = omega (arith, inv.counted, row.counted);
    }

pub returns-clause-updated : goal.returns-clause-updated
returns-clause-updated g c =
    let R = g.T.Ring.ring in
    let f = g.T.Ring.value in
    let u = c.args.update in
    updated_is R f c.requires.sizes c.values.ensures.sound c.values-2.ensures.sound
    c.major_offsets.ensures.valid g.T.Zero.zero_value (f u.beta) (f u.alpha) c.loop-i.values
    c.loop-i.auto.values
    c.requires.contained (λ i j p at.
    c.loop-i.invariant.rows.updated i j p (omega (arith, at.0.lane)) at)

pub returns-clause-counted : goal.returns-clause-counted
returns-clause-counted g c =
    let x = c.args.update.matrices in
    let d = c.args.pattern.now in
    let i_is : c.loop-i.i ≡ d.major_dim =
    omega (arith, c.loop-i-test.false, c.loop-i.auto.i-end) in
    omega (
      arith,
      c.loop-i.invariant.counted,
      ap (start_of d) i_is ∙ c.major_offsets.ensures.valid.last,
      all_steps x.a.now.pattern x.b.now.pattern c.values.ensures.sound.valid
          (i_is ∙ sym c.requires.sizes.lanes),
    )
