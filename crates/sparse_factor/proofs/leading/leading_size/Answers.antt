use Rattle.std.proofs.Common.{arith}
use Rattle.sparse_coo_dense.specs.CooPlain.{plain_of_coo}
use Rattle.sparse_factor.proofs.LeadingBlocks.{found_between, started_between, stops_whole}
use Rattle.sparse_factor.proofs.leading.leading_size.Goals as goal

pub returns-then-all : goal.returns-then-all
returns-then-all g c =
    let R = g.T.Ring.ring in
    let f = g.T.Ring.value in
    stops_whole R f (plain_of_coo R f c.args.a.now) c.nrows-size.result c.nrows-size.ensures
    (c.in_ok-all.ensures.factors c.if-all.true)

pub loop-range-init : goal.loop-range-init
loop-range-init g c =
    let R = g.T.Ring.ring in
    let f = g.T.Ring.value in
    started_between R f (plain_of_coo R f c.args.a.now) c.nrows-size.result c.nrows-size.ensures
    (c.in_ok-all.ensures.none c.if-all.false)

pub returns : goal.returns
returns g c =
    let R = g.T.Ring.ring in
    let f = g.T.Ring.value in
    found_between R f (plain_of_coo R f c.args.a.now) c.loop-range.range.0 c.loop-range.range.1
    c.loop-range.invariant (omega (arith, c.loop-range-test.false))
