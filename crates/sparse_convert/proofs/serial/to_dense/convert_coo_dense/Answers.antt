use Rattle.std.proofs.Common.{◌≡◌, rules}
use Rattle.sparse_convert.proofs.DenseWriting.{none_written, next_inside, one_written, read_there}
use Rattle.sparse_convert.proofs.DenseValues.{added_there, coo_represented}
use Rattle.sparse_convert.proofs.serial.to_dense.convert_coo_dense.Goals as goal

pub loop-i-init : goal.loop-i-init
loop-i-init g c =
    let all : c.into_iter-i-iterator.result ≡ c.args.coo.now.triplets = search rules in
    rw all (none_written g.T.Zero.zero_value
    (rw (c.nrows.ensures, c.ncols.ensures) at c.in_ok-dense.ensures)
    c.triplet_iter-i-items.ensures.inside)

pub get-requires : goal.get-requires
get-requires g c = next_inside c.in-Some.ensures.steps c.loop-i.invariant

pub set-requires : goal.set-requires
set-requires g c = next_inside c.in-Some.ensures.steps c.loop-i.invariant

pub loop-i-preserved : goal.loop-i-preserved
loop-i-preserved g c =
    let steps = c.in-Some.ensures.steps in
    let read = read_there steps c.loop-i.invariant c.get.ensures.value in
    one_written steps c.loop-i.invariant c.add-sum.result c.set.ensures.values
    (λ z. added_there g.T.Ring.ring g.T.Ring.value c.add-sum.result c.get.result _
    c.in-Some.value.now c.add-sum.ensures (read z))

pub returns : goal.returns
returns g c = coo_represented g.T.Ring.ring g.T.Ring.value g.T.Zero.zero_value g.met.T.Ring.zero_law
    c.args.coo.now c.triplet_iter-i-items.ensures.inside c.in-None.ensures.steps.0
    c.loop-i.invariant
