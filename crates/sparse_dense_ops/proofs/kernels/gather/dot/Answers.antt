use Rattle.std.proofs.Common.{◌*◌, ◌<◌, length, rules}
use Rattle.std.proofs.lemmas.List.{length_push}
use Rattle.std.proofs.lemmas.Slice.Zip.{zip_turn, zip_end}
use Rattle.sparse_dense_ops.proofs.Terms.{IsTerm, at_term, dot_all, dot_more, term_of}
use Rattle.sparse_dense_ops.proofs.kernels.gather.dot.Goals as goal
use Rattle.sparse_dense_ops.proofs.kernels.gather.dot.Given.{Over}
use Rattle.sparse_dense_ops.proofs.kernels.gather.dot.Goals.{In-Some}

-- the index and the value of an iteration
term : (g : Over) (c : In-Some g) → IsTerm c.args.indices.now c.args.values.now
    (length c.loop-index.yielded) c.in-Some.index.now c.in-Some.value.now
term g c = term_of (zip_turn c.args.indices.now c.args.values.now c.loop-index.yielded
    c.into_iter-index-iterator.result c.loop-index.index-iterator c.next.new.self c.next.result
    (search rules) (search rules) c.loop-index.yielded_by (c.in-Some.index, c.in-Some.value)
    c.in-Some.is c.next.ensures.steps)

-- the index of an iteration is inside the column
within : (g : Over) (c : In-Some g)
    → c.in-Some.index.now * c.args.step < length c.args.column.now
within g c = at_term (term g c) (λ k. k * c.args.step < length c.args.column.now)
    c.requires.inside

pub add_term-sum-requires : goal.add_term-sum-requires
add_term-sum-requires g c = within g (goal.at.add_term-sum-requires g c).In-Some

pub overflow_mul-index : goal.overflow_mul-index
overflow_mul-index g c = search (rules, within g (goal.at.overflow_mul-index g c).In-Some)

pub loop-index-preserved : goal.loop-index-preserved
loop-index-preserved g c = rw length_push (dot_more
    (term g (goal.at.loop-index-preserved g c).In-Some) c.loop-index.invariant
    c.add_term-sum.ensures)

pub returns : goal.returns
returns g c = dot_all c.loop-index.invariant c.requires.fits
    (zip_end c.args.indices.now c.args.values.now c.loop-index.yielded
    c.into_iter-index-iterator.result c.loop-index.index-iterator c.next.new.self c.next.result
    (search rules) (search rules) c.loop-index.yielded_by c.in-None.is c.next.ensures.steps)
