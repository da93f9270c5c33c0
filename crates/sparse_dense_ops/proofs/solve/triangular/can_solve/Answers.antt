use Rattle.std.proofs.Common.{arith}
use Rattle.sparse_dense_ops.proofs.solve.triangular.can_solve.Goals as goal

pub returns-then-ncols-eq0-clause-cases : goal.returns-then-ncols-eq0-clause-cases
returns-then-ncols-eq0-clause-cases g c =
    rw c.if-ncols-eq0.true (λ some. absurd (omega (arith, some)))

pub returns-then-ncols-eq0-clause-sound : goal.returns-then-ncols-eq0-clause-sound
returns-then-ncols-eq0-clause-sound g c = λ some.
    absurd (omega (arith, some, c.if-ncols-eq0.true))
