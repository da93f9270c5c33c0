use Rattle.std.proofs.Common.{◌≡◌, All, map, take}
use Rattle.sparse_compressed.specs.Compressed.{IsSound}
use Rattle.sparse_coo_dense.specs.CooPlain.{plain_of_coo}
use Rattle.mtxkit_eval.specs.Values.{exact_of, image_in}
use Rattle.mtxkit_eval.proofs.elements.element_lists.Given as goal

abbrev pub invariant-loop-matrix : goal.invariant-loop-matrix
invariant-loop-matrix g l = record {
  images : map (λ m. plain_of_coo g.T.Ring.ring g.T.Ring.value m) l.lists.items
      ≡ map (λ m. image_in g.T.Ring.ring (exact_of m)) (take l.matrix-index l.matrices);
  sound : All IsSound (take l.matrix-index l.matrices);
}
