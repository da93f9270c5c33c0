use Rattle.std.proofs.Common.{ap, ◌∙◌}
use Rattle.std.specs.List.{filter}
use Rattle.sparse_convert.specs.FromDense.{differs_from}
use Rattle.sparse_convert.proofs.DenseLanes.{lanes_by_rows}
use Rattle.sparse_convert.proofs.serial.from_dense.convert_dense_csr.Goals as goal

pub returns-clause-kept : goal.returns-clause-kept
returns-clause-kept g c =
    let E = g.T.PartialEq.eq in
    let z = g.T.Zero.zero_value in
    let d = c.args.dense.now in
    let kept = rw (c.nrows-nrows.ensures, c.ncols-ncols.ensures, c.as_slice.ensures.values) at
    c.in_ok-cs.ensures.kept in
    rw c.from_cs.ensures (kept ∙ ap (filter (differs_from E z)) (lanes_by_rows z d))
