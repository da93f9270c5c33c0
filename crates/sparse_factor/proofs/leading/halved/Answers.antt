use Rattle.std.proofs.Common.{◌≤◌, ◌+◌, ◌-◌, ◌/◌, arith}
use Rattle.sparse_coo_dense.specs.CooPlain.{plain_of_coo}
use Rattle.sparse_factor.proofs.LeadingBlocks.{upper_half}
use Rattle.sparse_factor.proofs.leading.halved.Goals as goal

pub returns-then-found-clause-between : goal.returns-then-found-clause-between
returns-then-found-clause-between g c =
    let R = g.T.Ring.ring in
    let f = g.T.Ring.value in
    let low = c.args.range.0 in
    let high = c.args.range.1 in
    let middle : low + (high - low) / 2 ≤ high = omega (arith, c.requires.wide) in
    upper_half R f (plain_of_coo R f c.args.a.now) low high (low + (high - low) / 2)
    c.requires.between middle (c.in_ok-found.ensures.factors c.if-found.true)
