use Rattle.std.proofs.Common.{◌<◌, length, arith, rules}
use Rattle.std.proofs.lemmas.List.{length_push}
use Rattle.std.proofs.lemmas.Slice.Zip.{zip_turn, zip_end}
use Rattle.sparse_dense_ops.proofs.Terms.{IsTerm, added_all, added_more, added_none, at_term}
use Rattle.sparse_dense_ops.proofs.Terms.{term_of}
use Rattle.sparse_dense_ops.proofs.kernels.scatter.add_multiple_four.Goals as goal
use Rattle.sparse_dense_ops.proofs.kernels.scatter.add_multiple_four.Given.{Over}
use Rattle.sparse_dense_ops.proofs.kernels.scatter.add_multiple_four.Goals.{In-Some}

pub loop-index-init : goal.loop-index-init
loop-index-init g c = record {
  first = added_none;
  second = added_none;
  third = added_none;
  fourth = added_none;
}

-- the index and the value of an iteration
term : (g : Over) (c : In-Some g) → IsTerm c.args.lane.0.now c.args.lane.1.now
    (length c.loop-index.yielded) c.in-Some.index.now c.in-Some.value.now
term g c = term_of (zip_turn c.args.lane.0.now c.args.lane.1.now c.loop-index.yielded
    c.into_iter-index-iterator.result c.loop-index.index-iterator c.next.new.self c.next.result
    (search rules) (search rules) c.loop-index.yielded_by (c.in-Some.index, c.in-Some.value)
    c.in-Some.is c.next.ensures.steps)

-- the index of an iteration is inside the vectors
within : (g : Over) (c : In-Some g) → c.in-Some.index.now < length c.args.first.now
within g c = at_term (term g c) (λ k. k < length c.args.first.now) c.requires.inside

pub add_product-requires : goal.add_product-requires
add_product-requires g c = omega
    (arith, within g (goal.at.add_product-requires g c).In-Some, c.loop-index.auto.first)

pub add_product-requires-in-loop-index : goal.add_product-requires-in-loop-index
add_product-requires-in-loop-index g c = omega (
  arith,
  within g (goal.at.add_product-requires-in-loop-index g c).In-Some,
  c.requires.width_2,
  c.loop-index.auto.second,
)

pub add_product-requires-in-loop-index-2 : goal.add_product-requires-in-loop-index-2
add_product-requires-in-loop-index-2 g c = omega (
  arith,
  within g (goal.at.add_product-requires-in-loop-index-2 g c).In-Some,
  c.requires.width_3,
  c.loop-index.auto.third,
)

pub add_product-requires-in-loop-index-3 : goal.add_product-requires-in-loop-index-3
add_product-requires-in-loop-index-3 g c = omega (
  arith,
  within g (goal.at.add_product-requires-in-loop-index-3 g c).In-Some,
  c.requires.width_4,
  c.loop-index.auto.fourth,
)

pub loop-index-preserved : goal.loop-index-preserved
loop-index-preserved g c =
    let at = (goal.at.loop-index-preserved g c).In-Some in
    let was = c.loop-index in
    let read = term g at in
    let inside = within g at in
    rw length_push (record {
      first = added_more read was.invariant.first c.add_product.ensures was.auto.first inside;
      second = added_more read was.invariant.second c.add_product-in-loop-index.ensures
          was.auto.second (omega (arith, inside, c.requires.width_2));
      third = added_more read was.invariant.third c.add_product-in-loop-index-2.ensures
          was.auto.third (omega (arith, inside, c.requires.width_3));
      fourth = added_more read was.invariant.fourth c.add_product-in-loop-index-3.ensures
          was.auto.fourth (omega (arith, inside, c.requires.width_4));
    })

pub returns : goal.returns
returns g c =
    let was = c.loop-index.invariant in
    let fits = c.requires.fits in
    let end = zip_end c.args.lane.0.now c.args.lane.1.now c.loop-index.yielded
    c.into_iter-index-iterator.result c.loop-index.index-iterator c.next.new.self c.next.result
    (search rules) (search rules) c.loop-index.yielded_by c.in-None.is c.next.ensures.steps in
    record {
      first = added_all was.first fits end;
      second = added_all was.second fits end;
      third = added_all was.third fits end;
      fourth = added_all was.fourth fits end;
    }
