use Rattle.std.proofs.Common.{map}
use Rattle.sparse_compressed.specs.Compressed.{lane_triplets, transposed}
use Rattle.sparse_convert.proofs.DenseWriting.{IsWritten}
use Rattle.sparse_convert.proofs.DenseValues.{replaced}
use Rattle.sparse_convert.proofs.serial.to_dense.convert_csc_dense.Given as goal

abbrev pub invariant-loop-i : goal.invariant-loop-i
invariant-loop-i g l = IsWritten replaced (λ v. v) g.T.Zero.zero_value l.csc.pattern.minor_dim
    l.csc.pattern.major_dim (map transposed (lane_triplets l.csc)) l.i-iterator l.dense
