use Rattle.std.proofs.Common.{map, ap, sym, ◌∙◌}
use Rattle.std.proofs.lemmas.Result.{IfOk-weaker}
use Rattle.sparse_algebra.specs.Integers.{element_of}
use Rattle.sparse_algebra.specs.Whole.{whole_ring}
use Rattle.sparse_algebra.specs.WrappingValues.{w128_number}
use Rattle.sparse_algebra.specs.declared.scalar.wide.W128.{W128}
use Rattle.sparse_compressed.specs.Compressed.{lane_triplets}
use Rattle.sparse_coo_dense.specs.CooPlain.{plain_of_coo}
use Rattle.mtxkit_texts.proofs.Revalued.{length-revalued, plain-revalued}
use Rattle.mtxkit_eval.proofs.IntegerImages.{image-IsRingMap}
use Rattle.sparse_algebra.proofs.RingMapLemmas.{map-triplets}
use Rattle.mtxkit_eval.proofs.elements.element_list.Goals as goal

pub with_values-requires : goal.with_values-requires
with_values-requires g c =
    let R = g.T.Ring.ring in
    let number = λ (v : W128). element_of R (w128_number v) in
    length-revalued c.in_ok-list.list c.in_ok-elements.elements.items R g.T.Ring.value number
    (c.in_ok-elements.ensures ∙ ap (map number) c.values-2.ensures)

pub returns-clause-images : goal.returns-clause-images
returns-clause-images g c =
    let R = g.T.Ring.ring in
    let value = g.T.Ring.value in
    let number = λ (v : W128). element_of R (w128_number v) in
    let m = c.args.matrix.now in
    let meant = plain-revalued c.in_ok-list.list c.in_ok-elements.elements.items R value number
    (c.in_ok-elements.ensures ∙ ap (map number) c.values-2.ensures)
    ∙ ap (plain_of_coo R number) c.in_ok-list.ensures
    ∙ sym (map-triplets whole_ring R (element_of R) (image-IsRingMap R) w128_number
    m.pattern.major_dim m.pattern.minor_dim (lane_triplets m)) in
    IfOk-weaker c.with_values.result _ _ (λ list is. ap (plain_of_coo R value) is ∙ meant)
    c.with_values.ensures.list
