use Rattle.std.proofs.Common.{◌∷◌, [], ◌++◌, All, get_or, take, map, ap, sym, subst}
use Rattle.std.proofs.lemmas.List.{map-append, take_more}
use Rattle.std.proofs.lemmas.List.Elements.{All-push}
use Rattle.sparse_compressed.specs.Compressed.{Compressed, IsSound}
use Rattle.sparse_coo_dense.specs.Coo.{Coo}
use Rattle.sparse_coo_dense.specs.CooPlain.{plain_of_coo}
use Rattle.sparse_algebra.specs.declared.scalar.wide.W128.{W128}
use Rattle.mtxkit_eval.specs.Values.{exact_of, image_in}
use Rattle.mtxkit_eval.proofs.elements.element_lists.Goals as goal

pub loop-matrix-preserved : goal.loop-matrix-preserved
loop-matrix-preserved g c =
    let R = g.T.Ring.ring in
    let plain = λ (m : Coo g.row.T.Denot). plain_of_coo R g.T.Ring.value m in
    let image = λ (m : Compressed W128). image_in R (exact_of m) in
    let matrices = c.args.matrices.now in
    let i = c.loop-matrix.matrix-index in
    let m = c.matrix-item.result in
    let list = c.in_ok-element_list.field-0 in
    let more = take_more matrices i m c.loop-matrix-test.true in
    record {
      images = rw (
        c.in_ok-push.ensures.items,
        map-append plain c.loop-matrix.lists.items (list ∷ []),
        c.loop-matrix.invariant.images,
        more,
        map-append image (take i matrices) (get_or matrices i m ∷ []),
        c.in_ok-element_list.ensures.images,
      ) (ap (λ x. map image (take i matrices) ++ image x ∷ []) c.matrix-item.is);
      sound = subst (All IsSound) (sym more)
          (All-push IsSound (take i matrices) (get_or matrices i m) c.loop-matrix.invariant.sound
          (subst IsSound c.matrix-item.is c.element_list.ensures.sound));
    }
