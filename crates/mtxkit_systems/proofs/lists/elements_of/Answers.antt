use Rattle.std.proofs.Common.{map, ap, ◌∙◌}
use Rattle.std.proofs.lemmas.Result.{IfOk-weaker}
use Rattle.sparse_coo_dense.specs.CooPlain.{plain_of_coo}
use Rattle.sparse_algebra.specs.Integers.{element_of}
use Rattle.mtxkit_texts.proofs.Revalued.{length-revalued, plain-revalued}
use Rattle.mtxkit_systems.proofs.lists.elements_of.Goals as goal

pub with_values-requires : goal.with_values-requires
with_values-requires g c =
    let R = g.T.Ring.ring in
    length-revalued c.args.list.now c.in_ok-elements.elements.items R g.T.Ring.value (element_of R)
    (c.in_ok-elements.ensures ∙ ap (map (element_of R)) c.values.ensures)

pub returns : goal.returns
returns g c =
    let R = g.T.Ring.ring in
    let value = g.T.Ring.value in
    let meant = plain-revalued c.args.list.now c.in_ok-elements.elements.items R value
    (element_of R) (c.in_ok-elements.ensures ∙ ap (map (element_of R)) c.values.ensures) in
    IfOk-weaker c.with_values.result _ _ (λ m is. ap (plain_of_coo R value) is ∙ meant)
    c.with_values.ensures.list
