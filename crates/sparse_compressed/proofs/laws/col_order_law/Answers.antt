use Rattle.std.proofs.Common.{sym}
use Rattle.sparse_compressed.proofs.ColOrder.{col_order-cols}
use Rattle.sparse_compressed.proofs.laws.col_order_law.Goals as goal

pub returns : goal.returns
returns g c m sound = sym (col_order-cols g.T.Ring.ring g.T.Ring.value m sound)
