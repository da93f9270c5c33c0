use Rattle.std.proofs.Common.{◌≡◌, ◌^◌, ◌<◌, All, length, true, ap, sym, subst, ◌∙◌, arith, rules}
use Rattle.std.proofs.lemmas.List.{length-map}
use Rattle.std.specs.Int.{w64}
use Rattle.std.specs.Int.RustNames.{FitsSigned}
use Rattle.mtxkit_texts.proofs.ExactSums.{narrow-fits}
use Rattle.mtxkit_texts.proofs.HighSums.{high_parts}
use Rattle.mtxkit_texts.proofs.Revalued.{revalued}
use Rattle.mtxkit_texts.proofs.SumRoom.{room_decided, same_count}
use Rattle.mtxkit_texts.proofs.exact.sums_fit.Goals as goal

pub returns-then-are_narrow : goal.returns-then-are_narrow
returns-then-are_narrow c =
    let list = c.args.list.now in
    let yes : c.are_narrow.result ≡ true = search rules in
    let narrow = subst (All (FitsSigned w64)) c.values-integers.ensures
    (c.are_narrow.ensures.narrow.0 yes) in
    let few : length list.triplets < 2 ^ 64 =
    omega (
      arith,
      c.are_narrow.ensures.few,
      ap length c.values-integers.ensures,
      length-map list.triplets (λ t. t.2),
    ) in
    (λ answer. narrow-fits list few narrow, λ room. search rules)

pub are_near-requires : goal.are_near-requires
are_near-requires c =
    let list = c.args.list.now in
    let few : length list.triplets < 2 ^ 64 =
    omega (
      arith,
      c.are_narrow.ensures.few,
      ap length c.values-integers.ensures,
      length-map list.triplets (λ t. t.2),
    ) in
    let made = c.in_ok-parts.ensures ∙ ap high_parts c.deref.ensures.value in
    ap length c.values-2.ensures.values
    ∙ same_count list c.in_ok-with_values.field-0 few c.in_ok-wide_values.field-0.items
    (c.in_ok-wide_values.ensures ∙ c.values-integers.ensures)
    (c.in_ok-with_values.ensures.list ∙ ap (revalued list) made)
    (c.in_ok-with_values.ensures.values ∙ made)
    c.args.sums.now c.in_ok-highs.highs c.requires.sound c.in_ok-highs.ensures.sound
    c.requires.sums c.in_ok-highs.ensures.sums
    ∙ ap length (sym c.values.ensures.values)

pub returns : goal.returns
returns c =
    let list = c.args.list.now in
    let few : length list.triplets < 2 ^ 64 =
    omega (
      arith,
      c.are_narrow.ensures.few,
      ap length c.values-integers.ensures,
      length-map list.triplets (λ t. t.2),
    ) in
    let made = c.in_ok-parts.ensures ∙ ap high_parts c.deref.ensures.value in
    let decided = room_decided list c.in_ok-with_values.field-0 few c.in_ok-wide_values.field-0.items
    (c.in_ok-wide_values.ensures ∙ c.values-integers.ensures)
    (c.in_ok-with_values.ensures.list ∙ ap (revalued list) made)
    (c.in_ok-with_values.ensures.values ∙ made)
    c.args.sums.now c.in_ok-highs.highs c.requires.sound c.in_ok-highs.ensures.sound
    c.requires.sums c.in_ok-highs.ensures.sums
    c.values.result.now c.values-2.result.now c.nnz.result
    c.values.ensures.values c.values-2.ensures.values c.nnz.ensures in
    (λ yes. decided.0 (c.are_near.ensures.0 yes), λ room. c.are_near.ensures.1 (decided.1 room))
