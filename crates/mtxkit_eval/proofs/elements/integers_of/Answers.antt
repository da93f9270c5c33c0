use Rattle.std.proofs.Common.{◌≡◌, ◌∷◌, [], All, get_or, take, refl, rules, sym, subst}
use Rattle.std.proofs.lemmas.List.{map-append, take_more}
use Rattle.std.proofs.lemmas.List.Elements.{All-push}
use Rattle.sparse_algebra.specs.Integers.{element_of}
use Rattle.sparse_algebra.specs.WrappingValues.{w128_number}
use Rattle.mtxkit_eval.proofs.elements.integers_of.Goals as goal

pub loop-element-preserved : goal.loop-element-preserved
loop-element-preserved g c =
    let R = g.T.Ring.ring in
    let value = g.T.Ring.value in
    let reduced = g.T.Residues.reduced in
    let elements = c.args.elements.now in
    let i = c.loop-element.element-index in
    let e = c.element-item.result in
    let x = c.new.result in
    let image : element_of R (w128_number x) ≡ value (get_or elements i e) = search rules in
    let small : reduced (w128_number x) ≡ w128_number x = search rules in
    record {
      images = rw (
        c.in_ok-push.ensures.items,
        map-append (λ v. element_of R (w128_number v)) c.loop-element.integers.items (x ∷ []),
        c.loop-element.invariant.images,
        take_more elements i e c.loop-element-test.true,
        map-append value (take i elements) (get_or elements i e ∷ []),
        image,
      ) refl;
      reduced = subst (All (λ v. reduced (w128_number v) ≡ w128_number v))
          (sym c.in_ok-push.ensures.items)
          (All-push (λ v. reduced (w128_number v) ≡ w128_number v) c.loop-element.integers.items x
          c.loop-element.invariant.reduced small);
    }
