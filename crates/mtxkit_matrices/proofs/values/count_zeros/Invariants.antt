use Rattle.std.proofs.Common.{◌≡◌, count_by, take}
use Rattle.mtxkit_matrices.proofs.values.count_zeros.Given as goal

abbrev pub invariant-loop-value : goal.invariant-loop-value
invariant-loop-value g l =
    l.count ≡ count_by (λ v. g.T.PartialEq.eq v g.T.Zero.zero_value) (take l.value-index l.values)
