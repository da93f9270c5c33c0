use Rattle.sparse_lu_laws.proofs.RankBounds.{pivots_rank}
use Rattle.sparse_lu_laws.proofs.ranks.rank_law.Goals as goal

pub returns : goal.returns
returns g c = λ a l u p q r local lu. pivots_rank g.T.Ring.ring g.T.Ring.value lu local
