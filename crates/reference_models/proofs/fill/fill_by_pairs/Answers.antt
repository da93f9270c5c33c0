use Rattle.std.proofs.Common.{arith}
use Rattle.reference_models.specs.InnerClosure.{IsWhole, IsLacking}
use Rattle.reference_models.proofs.Closures.{part_more, part_grows, whole_is_fill}
use Rattle.reference_models.proofs.fill.fill_by_pairs.Goals as goal

pub loop-pair-smaller : goal.loop-pair-smaller
loop-pair-smaller c =
    let t = c.args.triangle in
    let p = c.args.pattern.now in
    let set = c.loop-pair.set.items in
    let lacks : IsLacking t p set c.in-Some.pair =
    rw c.deref.ensures.value at c.in-Some.ensures.cases in
    let grows = part_grows t p set c.in-Some.pair c.in-Some.ensures.valid c.loop-pair.invariant
    lacks in
    omega (arith, grows, c.in_ok-push.ensures.len, c.loop-pair.set.ok.0)

pub loop-pair-preserved : goal.loop-pair-preserved
loop-pair-preserved c =
    let t = c.args.triangle in
    let p = c.args.pattern.now in
    let set = c.loop-pair.set.items in
    let lacks : IsLacking t p set c.in-Some.pair =
    rw c.deref.ensures.value at c.in-Some.ensures.cases in
    rw c.in_ok-push.ensures.items (part_more t p set c.in-Some.pair c.in-Some.ensures.valid
    c.loop-pair.invariant lacks)

pub returns-clause-fill : goal.returns-clause-fill
returns-clause-fill c =
    let t = c.args.triangle in
    let p = c.args.pattern.now in
    let set = c.loop-pair.set.items in
    let whole : IsWhole t p set = rw c.deref.ensures.value at c.in_default.ensures.cases in
    whole_is_fill t p set c.loop-pair.invariant whole
