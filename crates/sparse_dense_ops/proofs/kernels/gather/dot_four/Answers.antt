use Rattle.std.proofs.Common.{◌*◌, ◌<◌, List, length, All, rules}
use Rattle.std.proofs.lemmas.List.{length_push}
use Rattle.std.proofs.lemmas.Slice.Zip.{zip_turn, zip_end}
use Rattle.sparse_dense_ops.proofs.Terms.{IsTerm, at_term, dot_all, dot_more, term_of}
use Rattle.sparse_dense_ops.proofs.kernels.gather.dot_four.Goals as goal
use Rattle.sparse_dense_ops.proofs.kernels.gather.dot_four.Given.{Over}
use Rattle.sparse_dense_ops.proofs.kernels.gather.dot_four.Goals.{In-Some}

-- the index and the value of an iteration
term : (g : Over) (c : In-Some g) → IsTerm c.args.indices.now c.args.values.now
    (length c.loop-index.yielded) c.in-Some.index.now c.in-Some.value.now
term g c = term_of (zip_turn c.args.indices.now c.args.values.now c.loop-index.yielded
    c.into_iter-index-iterator.result c.loop-index.index-iterator c.next.new.self c.next.result
    (search rules) (search rules) c.loop-index.yielded_by (c.in-Some.index, c.in-Some.value)
    c.in-Some.is c.next.ensures.steps)

-- the index of an iteration is inside a column
within : (g : Over) (c : In-Some g) (column : List g.row.T.Denot)
    → All (λ k. k * c.args.step < length column) c.args.indices.now
    → c.in-Some.index.now * c.args.step < length column
within g c column = at_term (term g c) (λ k. k * c.args.step < length column)

pub add_term-a-requires : goal.add_term-a-requires
add_term-a-requires g c = within g (goal.at.add_term-a-requires g c).In-Some
    c.args.columns.0.now c.requires.first

pub add_term-b-requires : goal.add_term-b-requires
add_term-b-requires g c = within g (goal.at.add_term-b-requires g c).In-Some
    c.args.columns.1.now c.requires.second

pub add_term-c-requires : goal.add_term-c-requires
add_term-c-requires g c = within g (goal.at.add_term-c-requires g c).In-Some
    c.args.columns.2.now c.requires.third

pub add_term-d-requires : goal.add_term-d-requires
add_term-d-requires g c = within g (goal.at.add_term-d-requires g c).In-Some
    c.args.columns.3.now c.requires.fourth

pub overflow_mul-at : goal.overflow_mul-at
overflow_mul-at g c = search (
  rules,
  within g (goal.at.overflow_mul-at g c).In-Some
      c.args.columns.0.now c.requires.first,
)

pub loop-index-preserved : goal.loop-index-preserved
loop-index-preserved g c =
    let was = c.loop-index.invariant in
    let read = term g (goal.at.loop-index-preserved g c).In-Some in
    rw length_push (record {
      first = dot_more read was.first c.add_term-a.ensures;
      second = dot_more read was.second c.add_term-b.ensures;
      third = dot_more read was.third c.add_term-c.ensures;
      fourth = dot_more read was.fourth c.add_term-d.ensures;
    })

pub returns : goal.returns
returns g c =
    let was = c.loop-index.invariant in
    let fits = c.requires.fits in
    let end = zip_end c.args.indices.now c.args.values.now c.loop-index.yielded
    c.into_iter-index-iterator.result c.loop-index.index-iterator c.next.new.self c.next.result
    (search rules) (search rules) c.loop-index.yielded_by c.in-None.is c.next.ensures.steps in
    record {
      first = dot_all was.first fits end;
      second = dot_all was.second fits end;
      third = dot_all was.third fits end;
      fourth = dot_all was.fourth fits end;
    }
