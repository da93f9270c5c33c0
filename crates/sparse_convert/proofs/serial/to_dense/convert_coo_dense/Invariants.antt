use Rattle.sparse_convert.proofs.DenseWriting.{IsWritten}
use Rattle.sparse_convert.proofs.DenseValues.{added}
use Rattle.sparse_convert.proofs.serial.to_dense.convert_coo_dense.Given as goal

abbrev pub invariant-loop-i : goal.invariant-loop-i
invariant-loop-i g l =
    let R = g.T.Ring.ring in
    let f = g.T.Ring.value in
    IsWritten (added R f) f (f g.T.Zero.zero_value) l.coo.nrows l.coo.ncols l.coo.triplets
    l.i-iterator l.dense
