use Rattle.std.proofs.Common.{◌≡◌, sym, refl, ◌∙◌, rules, arith}
use Rattle.sparse_pattern.specs.Raw.{entries_of}
use Rattle.sparse_pattern.proofs.BuiltLanes.{minor_index_below}
use Rattle.sparse_sums.proofs.TargetLookups.{missed, found_entry, none_covered, covered_more, all_covered}
use Rattle.sparse_sums.proofs.TargetLookups.{next_is_entry}
use Rattle.sparse_sums.proofs.prealloc.covers_transposed.Goals as goal

pub loop-i-init : goal.loop-i-init
loop-i-init c =
    let all : c.into_iter-i-iterator.result ≡ entries_of c.args.a.now = search rules in
    rw all (none_covered c.args.target.now c.args.a.now c.major_offsets-2.ensures.valid)

pub offset_of-requires : goal.offset_of-requires
offset_of-requires c =
    let place = next_is_entry c.in-Some.ensures.steps c.loop-i.invariant in
    omega (
      arith,
      minor_index_below c.args.a.now c.major_offsets-2.ensures.valid c.in-Some.i c.in-Some.j place,
      c.requires,
    )

pub loop-i-preserved : goal.loop-i-preserved
loop-i-preserved c = covered_more c.in-Some.ensures.steps c.loop-i.invariant
    (found_entry c.args.target.now c.major_offsets.ensures.valid _ _ _
    (sym c.offset_of.ensures.offset ∙ c.in-Some-offset_of.is))

pub returns-in-None-offset_of : goal.returns-in-None-offset_of
returns-in-None-offset_of c =
    let none = sym c.offset_of.ensures.offset ∙ c.in-None-offset_of.is in
    let place = next_is_entry c.in-Some.ensures.steps c.loop-i.invariant in (
      λ h. cc,
      λ h. absurd (missed c.args.target.now c.major_offsets.ensures.valid _ _ none
          (h c.in-Some.i c.in-Some.j place)),
    )

pub returns : goal.returns
returns c = (λ _. all_covered c.in-None.ensures.steps.0 c.loop-i.invariant, λ _. refl)
