use Rattle.std.proofs.Common.{◌<◌, length, arith, rules}
use Rattle.std.proofs.lemmas.List.{length_push}
use Rattle.std.proofs.lemmas.Slice.Zip.{zip_turn, zip_end}
use Rattle.sparse_dense_ops.proofs.Terms.{IsTerm, added_all, added_more, added_none, at_term}
use Rattle.sparse_dense_ops.proofs.Terms.{term_of}
use Rattle.sparse_dense_ops.proofs.kernels.scatter.usaxpy.Goals as goal
use Rattle.sparse_dense_ops.proofs.kernels.scatter.usaxpy.Given.{Over}
use Rattle.sparse_dense_ops.proofs.kernels.scatter.usaxpy.Goals.{In-Some}

-- the index and the value of an iteration
term : (g : Over) (c : In-Some g) → IsTerm c.args.indices.now c.args.values.now
    (length c.loop-index.yielded) c.in-Some.index.now c.in-Some.value.now
term g c = term_of (zip_turn c.args.indices.now c.args.values.now c.loop-index.yielded
    c.into_iter-index-iterator.result c.loop-index.index-iterator c.next.new.self c.next.result
    (search rules) (search rules) c.loop-index.yielded_by (c.in-Some.index, c.in-Some.value)
    c.in-Some.is c.next.ensures.steps)

-- the index of an iteration is inside the vector
within : (g : Over) (c : In-Some g) → c.in-Some.index.now < length c.args.y.now
within g c = at_term (term g c) (λ k. k < length c.args.y.now) c.requires.inside

pub loop-index-init : goal.loop-index-init
loop-index-init g c = added_none

pub add_product-requires : goal.add_product-requires
add_product-requires g c = omega
    (arith, within g (goal.at.add_product-requires g c).In-Some, c.loop-index.auto.y)

pub loop-index-preserved : goal.loop-index-preserved
loop-index-preserved g c =
    let at = (goal.at.loop-index-preserved g c).In-Some in
    rw length_push (added_more (term g at) c.loop-index.invariant c.add_product.ensures
    c.loop-index.auto.y (within g at))

pub returns : goal.returns
returns g c = added_all c.loop-index.invariant c.requires.fits
    (zip_end c.args.indices.now c.args.values.now c.loop-index.yielded
    c.into_iter-index-iterator.result c.loop-index.index-iterator c.next.new.self c.next.result
    (search rules) (search rules) c.loop-index.yielded_by c.in-None.is c.next.ensures.steps)
