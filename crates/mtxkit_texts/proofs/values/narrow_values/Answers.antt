use Rattle.std.proofs.Common.{◌≡◌, ◌∷◌, [], get_or, take, refl, rules}
use Rattle.std.proofs.lemmas.List.{map-append, take_more}
use Rattle.sparse_algebra.specs.Numbers.{w64_number}
use Rattle.sparse_algebra.specs.WrappingValues.{w128_number}
use Rattle.mtxkit_texts.proofs.values.narrow_values.Goals as goal

pub loop-value-preserved : goal.loop-value-preserved
loop-value-preserved c =
    let values = c.args.values.now in
    let i = c.loop-value.value-index in
    let v = c.value-item.result in
    let lt = c.loop-value-test.true in
    let value : w64_number c.new.result ≡ w128_number (get_or values i v) = search rules in
    rw (
      c.in_ok-push-in-Ok.ensures.items,
      map-append w64_number c.loop-value.narrow.items (c.new.result ∷ []),
      c.loop-value.invariant,
      take_more values i v lt,
      map-append w128_number (take i values) (get_or values i v ∷ []),
      value,
    ) refl
