use Rattle.std.proofs.Common.{◌≡◌, ◌∷◌, [], pos, get_or, refl, rules}
use Rattle.std.proofs.lemmas.List.{map-append, take_more}
use Rattle.sparse_algebra.specs.WrappingValues.{w128_number}
use Rattle.mtxkit_texts.proofs.sums.wide_values.Goals as goal

pub loop-integer-preserved : goal.loop-integer-preserved
loop-integer-preserved c =
    let integers = c.args.integers.now in
    let i = c.loop-integer.integer-index in
    let lt = c.loop-integer-test.true in
    let value : w128_number c.new.result ≡ get_or integers i (pos 0) = search rules in
    rw (
      c.in_ok-push.ensures.items,
      map-append w128_number c.loop-integer.values.items (c.new.result ∷ []),
      c.loop-integer.invariant,
      take_more integers i (pos 0) lt,
      value,
    ) refl
