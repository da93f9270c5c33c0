use Rattle.std.proofs.Common.{◌≡◌}
use Rattle.std.specs.List.{filter}
use Rattle.sparse_coo_dense.specs.Coo.{coo_of}
use Rattle.sparse_convert.specs.FromDense.{differs_from}
use Rattle.sparse_convert.proofs.DenseLanes.{first_columns}
use Rattle.sparse_convert.proofs.serial.from_dense.convert_dense_coo.Given as goal

abbrev pub invariant-loop-j : goal.invariant-loop-j
invariant-loop-j g l =
    let z = g.T.Zero.zero_value in
    l.coo ≡ coo_of l.dense.nrows l.dense.ncols
    (filter (differs_from g.T.PartialEq.eq z) (first_columns z l.dense l.j))
