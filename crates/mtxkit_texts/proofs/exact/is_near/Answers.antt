use Rattle.std.proofs.Common.{◌≡◌, pos, ◌-ℤ◌, ap, sym, subst, ◌∙◌, arith, rules, to_z, of_z}
use Rattle.std.proofs.lemmas.Int.{ints, to_z-of_z}
use Rattle.std.specs.Int.{w128}
use Rattle.std.specs.Int.RustNames.{FitsSigned}
use Rattle.mtxkit_texts.specs.HighParts.{high_part}
use Rattle.mtxkit_texts.proofs.HighSums.{high_fits_wide}
use Rattle.mtxkit_texts.proofs.exact.is_near.Goals as goal

pub returns-in-Ok : goal.returns-in-Ok
returns-in-Ok c =
    let sum = c.args.sum in
    let part = c.high_of.ensures ∙ ap high_part (to_z-of_z w128 sum c.ranges.sum) in
    let fits = subst (FitsSigned w128) (sym part) (high_fits_wide sum c.ranges.sum) in
    let back = to_z-of_z w128 c.high_of.result fits in
    let high = to_z-of_z w128 c.args.high c.ranges.high in
    let more : c.in-Some.more ≡ high_part sum -ℤ c.args.high =
    c.in-Some.ensures.1 ∙ ap (λ y. y -ℤ to_z w128 (of_z w128 c.args.high)) (back ∙ part)
    ∙ ap (λ y. high_part sum -ℤ y) high in
    let value : c.in-Some.more ≡ pos c.in-Ok.more = search rules in
    (λ yes. (omega (arith, ints, more, value), grind arith), λ near. grind arith)
