use Rattle.std.proofs.Common.{◌≡◌, [], arith}
use Rattle.std.proofs.lemmas.List.{take_all}
use Rattle.std.proofs.lemmas.List.Elements.{All-more}
use Rattle.sparse_pattern.specs.Raw.{lane_of}
use Rattle.sparse_products.proofs.serial.read_ahead.width_of_lanes.Goals as goal

pub loop-k-preserved : goal.loop-k-preserved
loop-k-preserved c = λ none.
    let max = c.max-width.ensures in
    All-more (λ k. lane_of c.args.b.now k ≡ []) c.args.lane.now c.loop-k.k-index 0
    c.loop-k-test.true (c.loop-k.invariant (omega (arith, max, none)))
    (c.width_of_lane.ensures (omega (arith, max, none)))

pub returns : goal.returns
returns c =
    rw (take_all c.loop-k.k-index c.args.lane.now c.loop-k-test.false) at c.loop-k.invariant
