use Rattle.sparse_compressed.proofs.MatrixTransposes.{with_values}
use Rattle.sparse_compressed.proofs.CsMatrix.transpose.Goals as goal

pub returns-clause-transposed : goal.returns-clause-transposed
returns-clause-transposed g c =
    let made = c.in_ok-transposed.ensures in
    rw c.from_pattern_and_values.ensures.is
    (with_values c.args.self.now c.in_ok-transposed.transposed c.in_ok-transposed.values.items
    (rw c.pattern.ensures.pattern at made.transposed)
    (rw (c.pattern.ensures.pattern, c.values.ensures.values) at made.values))
