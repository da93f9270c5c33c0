use Rattle.std.proofs.Common.{sym}
use Rattle.sparse_compressed.proofs.RowOrder.{row_order-rows}
use Rattle.sparse_compressed.proofs.laws.row_order_law.Goals as goal

pub returns : goal.returns
returns g c = λ m sound. sym (row_order-rows g.T.Ring.ring g.T.Ring.value m sound)
