use Rattle.std.proofs.Common.{◌≡◌, ◌<◌, length, ◌∙◌, ap, arith}
use Rattle.sparse_compressed.proofs.Arrays.{offset_within}
use Rattle.sparse_products.specs.InnerOperands.{product_of}
use Rattle.sparse_products.proofs.CoveredLanes.{lanes_of_product}
use Rattle.sparse_products.proofs.ProductSums.{all_steps, no_steps}
use Rattle.sparse_sums.proofs.UpdatedLanes.{lanes_more, lanes_none}
use Rattle.sparse_products.proofs.Updating.{updated_is}
use Rattle.sparse_products.proofs.serial.search.search_rows.Goals as goal

pub add_product_row-requires-clause-row_sums : goal.add_product_row-requires-clause-row_sums
add_product_row-requires-clause-row_sums g c = λ j h.
    let d = c.args.pattern.now in
    let i = c.loop-i.i in
    let x = c.args.update.matrices in
    let valid = c.major_offsets.ensures.valid in
    let lane : i < x.a.now.pattern.major_dim = omega (arith, c.requires.sizes.lanes) in
    let place = lanes_of_product d x.a.now.pattern x.b.now.pattern
    c.values.ensures.sound.valid c.requires.contained i lane j h in (
      place.at,
      (valid, (place.in_lane, place.index)),
      omega (
        arith,
        offset_within d valid i j place.at (place.in_lane, place.index),
        c.requires.sizes.count,
        c.loop-i.auto.values,
      ),
    )

pub loop-i-init : goal.loop-i-init
loop-i-init g c =
    let x = c.args.update.matrices in
    record {
      rows = lanes_none;
      counted = omega (
        arith,
        no_steps x.a.now.pattern x.b.now.pattern c.values.ensures.sound.valid,
      );
    }

pub loop-i-preserved : goal.loop-i-preserved
loop-i-preserved g c =
    let d = c.args.pattern.now in
    let i = c.loop-i.i in
    let valid = c.major_offsets.ensures.valid in
    let lane : i < d.major_dim = omega arith in
    let row = c.add_product_row.ensures in
    record {
      rows = lanes_more c.loop-i.invariant.rows valid lane c.add_product_row.new.target
          (λ p none. row.added.others p (λ j at. none at.1.0))
          (λ j p at. row.added.added j p (valid, at) (omega (
            arith,
            offset_within d valid i j p at,
            c.requires.sizes.count,
            c.loop-i.auto.values,
          )));
      counted = omega (arith, c.loop-i.invariant.counted, row.counted);
    }

pub returns-clause-updated : goal.returns-clause-updated
returns-clause-updated g c =
    let R = g.T.Ring.ring in
    let f = g.T.Ring.value in
    let u = c.args.update in
    let d = c.args.pattern.now in
    let valid = c.major_offsets.ensures.valid in
    updated_is R f c.requires.sizes c.values.ensures.sound c.values-2.ensures.sound valid
    g.T.Zero.zero_value (f u.beta) (f u.alpha) c.loop-i.values
    (c.loop-i.auto.values ∙ c.scale_values.auto.values) c.requires.contained (λ i j p at.
    let within : p < length c.args.values.now =
    omega (arith, offset_within d valid i j p at, c.requires.sizes.count) in
    c.loop-i.invariant.rows.updated i j p (omega (arith, at.0.lane)) at
    ∙ ap (λ y. R.add y (R.mul (f u.alpha) ((product_of R f u.matrices).value i j)))
    (c.scale_values.ensures.scaled.each p within))

pub returns-clause-counted : goal.returns-clause-counted
returns-clause-counted g c =
    let x = c.args.update.matrices in
    let whole : c.loop-i.i ≡ x.a.now.pattern.major_dim = omega (
      arith,
      c.loop-i-test.false,
      c.loop-i.auto.i-end,
      c.requires.sizes.lanes,
    ) in
    omega (
      arith,
      c.loop-i.invariant.counted,
      c.scale_values.ensures.counted,
      c.requires.sizes.count,
      all_steps x.a.now.pattern x.b.now.pattern c.values.ensures.sound.valid whole,
    )
