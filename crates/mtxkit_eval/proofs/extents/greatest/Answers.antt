use Rattle.std.proofs.Common.{◌≡◌, ◌∷◌, [], get_or, take, map, max, ap, sym, ◌∙◌, rules}
use Rattle.std.proofs.lemmas.List.{map-append, take_more}
use Rattle.mtxkit_eval.specs.Extents.{greatest, magnitude}
use Rattle.mtxkit_eval.proofs.Caps.{greatest-more}
use Rattle.mtxkit_eval.proofs.extents.greatest.Goals as goal

pub loop-value-preserved : goal.loop-value-preserved
loop-value-preserved c =
    let values = c.args.values.now in
    let i = c.loop-value.value-index in
    let v = c.value-item.result in
    let here : c.unsigned_abs.result ≡ magnitude (get_or values i v) = search rules in
    c.larger-greatest.ensures
    ∙ ap (λ n. max n c.unsigned_abs.result) c.loop-value.invariant
    ∙ ap (max (greatest (map magnitude (take i values)))) here
    ∙ sym (ap (λ vs. greatest (map magnitude vs)) (take_more values i v c.loop-value-test.true)
    ∙ ap greatest (map-append magnitude (take i values) (get_or values i v ∷ []))
    ∙ greatest-more (map magnitude (take i values)) (magnitude (get_or values i v)))
