use Rattle.std.proofs.Common.{◌≡◌, map, refl, rules}
use Rattle.sparse_compressed.specs.Compressed.{lane_triplets, transposed}
use Rattle.sparse_convert.proofs.DenseWriting.{none_written, next_inside, one_written}
use Rattle.sparse_convert.proofs.DenseValues.{cols_written, transposed_inside}
use Rattle.sparse_convert.proofs.serial.to_dense.convert_csc_dense.Goals as goal

pub loop-i-init : goal.loop-i-init
loop-i-init g c =
    let m = c.args.csc.now in
    let all : c.into_iter-i-iterator.result ≡ map transposed (lane_triplets m) = search rules in
    rw all (none_written g.T.Zero.zero_value
    (rw (c.nrows.ensures, c.ncols.ensures) at c.in_ok-dense.ensures)
    (transposed_inside c.triplet_iter-i-items.ensures.sound))

pub set-requires : goal.set-requires
set-requires g c = next_inside c.in-Some.ensures.steps c.loop-i.invariant

pub loop-i-preserved : goal.loop-i-preserved
loop-i-preserved g c = one_written c.in-Some.ensures.steps c.loop-i.invariant c.in-Some.value.now
    c.set.ensures.values (λ z. refl)

pub returns : goal.returns
returns g c = cols_written c.triplet_iter-i-items.ensures.sound c.in-None.ensures.steps.0
    c.loop-i.invariant
