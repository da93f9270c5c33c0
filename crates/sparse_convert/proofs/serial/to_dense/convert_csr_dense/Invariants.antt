use Rattle.sparse_compressed.specs.Compressed.{lane_triplets}
use Rattle.sparse_convert.proofs.DenseWriting.{IsWritten}
use Rattle.sparse_convert.proofs.DenseValues.{replaced}
use Rattle.sparse_convert.proofs.serial.to_dense.convert_csr_dense.Given as goal

abbrev pub invariant-loop-i : goal.invariant-loop-i
invariant-loop-i g l = IsWritten replaced (λ v. v) g.T.Zero.zero_value l.csr.pattern.major_dim
    l.csr.pattern.minor_dim (lane_triplets l.csr) l.i-iterator l.dense
