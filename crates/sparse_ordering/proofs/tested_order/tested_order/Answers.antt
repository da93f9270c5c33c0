use Rattle.std.proofs.lemmas.Result.{IfOk-weaker}
use Rattle.sparse_permutation.proofs.Orders.{length-below}
use Rattle.sparse_ordering.proofs.tested_order.tested_order.Goals as goal

pub returns-in_default : goal.returns-in_default
returns-in_default c =
    IfOk-weaker c.identity.result _ _ (λ p is. rw is (length-below c.args.size)) c.identity.ensures
