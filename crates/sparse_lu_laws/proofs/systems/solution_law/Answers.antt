use Rattle.std.proofs.Common.{ap, sym, ◌∙◌}
use Rattle.sparse_lu_laws.proofs.FullRank.{full_rank_cancels}
use Rattle.sparse_lu_laws.proofs.systems.solution_law.Goals as goal

pub returns : goal.returns
returns g c = λ a l u x y b p q lu first second. full_rank_cancels g.T.Ring.ring g.T.Ring.value lu
    b.cols x y (λ i j row col. ap (λ m. m.value i j) first ∙ sym (ap (λ m. m.value i j) second))
