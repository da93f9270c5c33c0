use Rattle.std.proofs.Common.{◌≡◌, ℤ, ◌++◌, ◌∷◌, [], get_or, map, take, ap, ◌∙◌, rules}
use Rattle.std.proofs.lemmas.Int.{to_z-of_z}
use Rattle.std.proofs.lemmas.List.{map-append, take_more}
use Rattle.std.specs.Int.{w128}
use Rattle.sparse_algebra.specs.WrappingValues.{w128_number}
use Rattle.sparse_algebra.specs.declared.scalar.wide.W128.{W128}
use Rattle.mtxkit_texts.specs.HighParts.{high_part}
use Rattle.mtxkit_texts.proofs.HighSums.{high_fits_wide}
use Rattle.mtxkit_texts.proofs.exact.high_parts.Goals as goal

pub loop-integer-preserved : goal.loop-integer-preserved
loop-integer-preserved c =
    let integers = c.args.integers.now in
    let i = c.loop-integer.integer-index in
    let v : W128 = get_or integers i c.integer-item.result in
    let lt = c.loop-integer-test.true in
    let part : c.high_of.result ≡ high_part (w128_number v) = search rules in
    let fits = high_fits_wide (w128_number v) v.in_range in
    let back = to_z-of_z w128 c.high_of.result (rw part fits) in
    rw (
      c.in_ok-push.ensures.items,
      c.loop-integer.invariant,
      take_more integers i c.integer-item.result lt,
      map-append (λ w. high_part (w128_number w)) (take i integers) (v ∷ []),
    ) (ap (λ (z : ℤ). map (λ w. high_part (w128_number w)) (take i integers) ++ (z ∷ []))
    (back ∙ part))
