use Rattle.sparse_lu_laws.proofs.RankBounds.{one_rank}
use Rattle.sparse_lu_laws.proofs.ranks.one_rank_law.Goals as goal

pub returns : goal.returns
returns g c = one_rank g.T.Ring.ring
