use Rattle.sparse_lu_laws.proofs.RankBounds.{factored_through_pivots}
use Rattle.sparse_lu_laws.proofs.ranks.factored_law.Goals as goal

pub returns : goal.returns
returns g c = λ a l u p q r lu. factored_through_pivots g.T.Ring.ring g.T.Ring.value lu
