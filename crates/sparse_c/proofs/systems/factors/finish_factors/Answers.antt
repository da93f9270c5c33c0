use Rattle.std.proofs.Common.{sym, ◌∙◌}
use Rattle.c_arrays.proofs.Meanings.{place_count-rows}
use Rattle.sparse_c.proofs.systems.factors.finish_factors.Goals as goal

pub returns-then-pivots-len-clause-needed : goal.returns-then-pivots-len-clause-needed
returns-then-pivots-len-clause-needed g c = λ _.
    rw c.in-Ok.is (c.nnz.ensures.count
    ∙ sym (place_count-rows g.T.Ring.ring g.T.Ring.value c.in-Ok.l c.nnz.ensures.sound))
