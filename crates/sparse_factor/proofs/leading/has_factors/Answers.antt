use Rattle.std.proofs.Common.{sym, ◌∙◌}
use Rattle.sparse_factor.proofs.LeadingBlocks.{block_cols, block_factors, block_rows, block_unfactored}
use Rattle.sparse_factor.proofs.leading.has_factors.Goals as goal

pub factor-requires : goal.factor-requires
factor-requires g c =
    let R = g.T.Ring.ring in
    let f = g.T.Ring.value in
    let is = c.in_ok-list.ensures in
    let plain = c.in_ok-block.ensures.plain in
    let n = c.args.size in
    record {
      square = block_rows R f n c.args.a.now c.in_ok-list.list c.in_ok-block.block is plain
          ∙ sym (block_cols R f n c.args.a.now c.in_ok-list.list c.in_ok-block.block is plain);
    }

pub returns-in-Ok-clause-factors : goal.returns-in-Ok-clause-factors
returns-in-Ok-clause-factors g c = λ _.
    let found = c.in-Ok.ensures in
    block_factors g.T.Ring.ring g.T.Ring.value c.args.size c.args.a.now c.in_ok-list.list
    c.in_ok-block.block c.in_ok-list.ensures c.in_ok-block.ensures.plain g.T.Zero.zero_value
    c.in-Ok._factors found.rows found.count found.unit_diagonal found.pivots found.equation

pub returns-in-Singular-clause-none : goal.returns-in-Singular-clause-none
returns-in-Singular-clause-none g c = λ _.
    block_unfactored g.T.Ring.ring g.T.Ring.value c.args.size c.args.a.now c.in_ok-list.list
    c.in_ok-block.block c.in_ok-list.ensures c.in_ok-block.ensures.plain
    (c.in-Err.ensures.singular (let kind = c.kind-kind.ensures in let is = c.in-Singular.is in cc))
