use Rattle.std.proofs.lemmas.Grind.{common_steps}
use Rattle.std.proofs.Common.{map, ap, sym, ◌∙◌, arith}
use Rattle.std.specs.List.{filter}
use Rattle.sparse_compressed.specs.Compressed.{transposed}
use Rattle.sparse_convert.specs.FromDense.{differs_from}
use Rattle.sparse_convert.proofs.DenseLanes.{kept_columns, lanes_by_columns}
use Rattle.sparse_convert.proofs.serial.from_dense.convert_dense_csc.Goals as goal

pub returns-clause-kept : goal.returns-clause-kept
returns-clause-kept g c =
    let E = g.T.PartialEq.eq in
    let z = g.T.Zero.zero_value in
    let d = c.args.dense.now in
    let kept = rw (c.nrows-nrows.ensures, c.ncols-ncols.ensures, c.as_slice.ensures.values) at
    c.in_ok-cs.ensures.kept in
    rw c.from_cs.ensures
    (ap (map transposed) (kept ∙ ap (filter (differs_from E z)) (lanes_by_columns z d))
    ∙ sym (kept_columns E z d))

-- ---- written by tools/answer-goals

pub compress_lanes-requires-clause-starts : goal.compress_lanes-requires-clause-starts
compress_lanes-requires-clause-starts g c = grind (arith, common_steps)
