use Rattle.std.proofs.lemmas.Grind.{common_steps}
use Rattle.std.proofs.Common.{◌≡◌, ◌<◌, length, get_or, ap, refl, sym, ◌∙◌, rules}
use Rattle.std.proofs.Common.{arith}
use Rattle.std.proofs.lemmas.List.{get_or_default}
use Rattle.sparse_compressed.specs.Compressed.{lane_triplets}
use Rattle.sparse_compressed.proofs.TripletBounds.{lane_triplets-places}
use Rattle.sparse_sums.proofs.TargetLookups.{missed, next_entry, adding_more, all_added}
use Rattle.sparse_sums.proofs.prealloc.add_transposed.Goals as goal

pub loop-i-init : goal.loop-i-init
loop-i-init g c =
    let a = c.args.a.now in
    let all : c.into_iter-i-iterator.result ≡ lane_triplets a = search rules in
    rw all (record {
      count = refl;
      entries = λ k t lt. c.requires.covered (get_or (lane_triplets a) k t).0
          (get_or (lane_triplets a) k t).1 (lane_triplets-places a
          c.triplet_iter-i-items.ensures.sound k t lt);
      sums = λ i j p at. refl;
    })

pub offset_of-requires : goal.offset_of-requires
offset_of-requires g c = (next_entry c.major_offsets.ensures.valid c.loop-i.invariant
    c.in-Some.ensures.steps).in_lane.lane

pub loop-i-preserved-in-Some-offset_of : goal.loop-i-preserved-in-Some-offset_of
loop-i-preserved-in-Some-offset_of g c =
    let R = g.T.Ring.ring in
    let f = g.T.Ring.value in
    let z = g.T.Zero.zero_value in
    let q = c.in-Some-offset_of.at in
    let within : q < length c.loop-i.values =
    omega (
      arith,
      c.in-Some-offset_of.ensures.within,
      c.requires.count,
      c.loop-i.invariant.count,
    ) in
    let read = c.index-values-at.is ∙ get_or_default c.loop-i.values q c.index-values-at.result z
    within in
    adding_more c.major_offsets.ensures.valid c.loop-i.invariant c.in-Some.ensures.steps
    c.requires.count q (sym c.offset_of.ensures.offset ∙ c.in-Some-offset_of.is)
    c.add.result
    (c.add.ensures ∙ ap (λ x. R.add x (f c.mul.result)) (ap f read)
    ∙ ap (R.add (f (get_or c.loop-i.values q z))) c.mul.ensures)

pub loop-i-preserved : goal.loop-i-preserved
loop-i-preserved g c =
    let valid = c.major_offsets.ensures.valid in
    absurd (missed c.args.target.now valid _ _
    (sym c.offset_of.ensures.offset ∙ c.in-None-offset_of.is)
    (next_entry valid c.loop-i.invariant c.in-Some.ensures.steps))

pub returns-clause-added : goal.returns-clause-added
returns-clause-added g c =
    all_added c.args.a.now c.loop-i.invariant c.in-None.ensures.steps.0

pub offset_bounds-values-at : goal.offset_bounds-values-at
offset_bounds-values-at g c = grind (arith, common_steps)

pub offset_bounds-values-at-in-Some-offset_of : goal.offset_bounds-values-at-in-Some-offset_of
offset_bounds-values-at-in-Some-offset_of g c = grind (arith, common_steps)
