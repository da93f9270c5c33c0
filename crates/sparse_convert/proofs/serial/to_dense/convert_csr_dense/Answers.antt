use Rattle.std.proofs.Common.{◌≡◌, refl, rules}
use Rattle.sparse_compressed.specs.Compressed.{lane_triplets}
use Rattle.sparse_compressed.proofs.TripletBounds.{lane_triplets-inside}
use Rattle.sparse_convert.proofs.DenseWriting.{none_written, next_inside, one_written}
use Rattle.sparse_convert.proofs.DenseValues.{rows_written}
use Rattle.sparse_convert.proofs.serial.to_dense.convert_csr_dense.Goals as goal

pub loop-i-init : goal.loop-i-init
loop-i-init g c =
    let m = c.args.csr.now in
    let all : c.into_iter-i-iterator.result ≡ lane_triplets m = search rules in
    rw all (none_written g.T.Zero.zero_value
    (rw (c.nrows.ensures, c.ncols.ensures) at c.in_ok-dense.ensures)
    (lane_triplets-inside m c.triplet_iter-i-items.ensures.sound))

pub set-requires : goal.set-requires
set-requires g c = next_inside c.in-Some.ensures.steps c.loop-i.invariant

pub loop-i-preserved : goal.loop-i-preserved
loop-i-preserved g c = one_written c.in-Some.ensures.steps c.loop-i.invariant c.in-Some.value.now
    c.set.ensures.values (λ z. refl)

pub returns : goal.returns
returns g c = rows_written c.triplet_iter-i-items.ensures.sound c.in-None.ensures.steps.0
    c.loop-i.invariant
