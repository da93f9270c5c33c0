use Rattle.std.proofs.Common.{◌≡◌, replicate}
use Rattle.sparse_factor.proofs.ldl.numeric.zeros.Given as goal

abbrev pub invariant-loop : goal.invariant-loop
invariant-loop g l = l.zeros.items ≡ replicate l.counter g.T.Zero.zero_value
