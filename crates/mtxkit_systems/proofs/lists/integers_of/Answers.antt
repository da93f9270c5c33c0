use Rattle.std.proofs.Common.{◌≡◌, ℤ, pos, All, map, ap, sym, subst, ◌∙◌}
use Rattle.std.proofs.lemmas.Result.{IfOk-weaker}
use Rattle.sparse_coo_dense.specs.Coo.{Coo}
use Rattle.sparse_coo_dense.specs.CooPlain.{plain_of_coo}
use Rattle.sparse_algebra.specs.Integers.{element_of}
use Rattle.mtxkit_texts.proofs.Revalued.{length-revalued, plain-revalued}
use Rattle.mtxkit_matrices.specs.Orders.{coordinates_of}
use Rattle.mtxkit_systems.proofs.Listed.{integers-nonzero, places-zipped}
use Rattle.mtxkit_systems.proofs.lists.integers_of.Goals as goal

pub with_values-requires : goal.with_values-requires
with_values-requires g c =
    let R = g.T.Ring.ring in
    let value = g.T.Ring.value in
    length-revalued c.args.list.now c.in_ok-integers.integers.items R (element_of R) value
    (c.in_ok-integers.ensures.meant ∙ ap (map value) c.values.ensures)

pub returns-clause-plain : goal.returns-clause-plain
returns-clause-plain g c =
    let R = g.T.Ring.ring in
    let value = g.T.Ring.value in
    let meant = plain-revalued c.args.list.now c.in_ok-integers.integers.items R (element_of R)
    value (c.in_ok-integers.ensures.meant ∙ ap (map value) c.values.ensures) in
    IfOk-weaker c.with_values.result _ _ (λ m is. ap (plain_of_coo R (element_of R)) is ∙ meant)
    c.with_values.ensures.list

pub returns-clause-reduced : goal.returns-clause-reduced
returns-clause-reduced g c =
    let reduced = g.T.Residues.reduced in
    IfOk-weaker c.with_values.result _ _
    (λ m is. subst (All (λ z. reduced z ≡ z)) (sym is) c.in_ok-integers.ensures.reduced)
    c.with_values.ensures.values

pub returns-clause-coordinates : goal.returns-clause-coordinates
returns-clause-coordinates g c =
    let R = g.T.Ring.ring in
    let value = g.T.Ring.value in
    let long = length-revalued c.args.list.now c.in_ok-integers.integers.items R (element_of R) value
    (c.in_ok-integers.ensures.meant ∙ ap (map value) c.values.ensures) in
    IfOk-weaker c.with_values.result _ _
    (λ m is. ap (λ (l : Coo ℤ). coordinates_of l.triplets) is
    ∙ places-zipped c.args.list.now.triplets c.in_ok-integers.integers.items long)
    c.with_values.ensures.list

pub returns-clause-nonzero : goal.returns-clause-nonzero
returns-clause-nonzero g c =
    let R = g.T.Ring.ring in
    let value = g.T.Ring.value in
    IfOk-weaker c.with_values.result _ _
    (λ m is nonzero. subst (All (λ z. z ≡ pos 0 → ⊥)) (sym is)
    (integers-nonzero R value c.args.list.now.triplets c.in_ok-integers.integers.items
    (c.in_ok-integers.ensures.meant ∙ ap (map value) c.values.ensures) nonzero))
    c.with_values.ensures.values
