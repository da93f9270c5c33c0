use Rattle.sparse_compressed.specs.Compressed.{lane_triplets}
use Rattle.sparse_convert.proofs.NonzeroParts.{triplets_part, rows_part, cols_part}
use Rattle.sparse_convert.proofs.serial.from_dense.from_dense_law.Goals as goal

pub returns : goal.returns
returns g c =
    let R = g.T.Ring.ring in
    let f = g.T.Ring.value in
    let E = g.T.PartialEq.eq in
    let z = g.T.Zero.zero_value in
    let zero_is = g.met.T.Ring.zero_law in
    let decides = g.met.T.Ring.eq_law in
    record {
      coo = triplets_part R f E z zero_is decides;
      csc = λ d m rows cols is. cols_part R f E z zero_is decides d m.pattern.minor_dim
          m.pattern.major_dim (lane_triplets m) rows cols is;
      csr = λ d m rows cols is. rows_part R f E z zero_is decides d m.pattern.major_dim
          m.pattern.minor_dim (lane_triplets m) rows cols is;
    }
