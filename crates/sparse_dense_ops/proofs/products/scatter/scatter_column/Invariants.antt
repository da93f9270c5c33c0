use Rattle.std.proofs.Common.{◌≡◌, ◌<◌, ℕ, length, get_or}
use Rattle.sparse_algebra.specs.Sums.{sum_below}
use Rattle.sparse_compressed.specs.PlainOfLanes.{plain_of_rows}
use Rattle.sparse_dense_ops.specs.DenseOperands.{op_dense}
use Rattle.sparse_dense_ops.proofs.products.scatter.scatter_column.Given as goal

abbrev pub invariant-loop-k : goal.invariant-loop-k
invariant-loop-k g l =
    let R = g.T.Ring.ring in
    let f = g.T.Ring.value in
    let z = g.T.Zero.zero_value in
    let change = l.fn.change in
    (i : ℕ) → i < length l.c → f (get_or l.c i z)
    ≡ R.add (R.mul (f change.beta) (f (get_or l.fn.c i z)))
    (R.mul (f change.alpha)
    (sum_below R l.k (λ k. R.mul ((plain_of_rows R f change.a.now).value k i)
    ((op_dense R f change.b).value k l.fn.j))))
