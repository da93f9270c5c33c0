use Rattle.std.proofs.Common.{◌≡◌, map, get_or}
use Rattle.std.specs.List.{filter}
use Rattle.sparse_coo_dense.specs.Coo.{appended}
use Rattle.sparse_algebra.specs.Plain.{below}
use Rattle.sparse_convert.specs.FromDense.{differs_from}
use Rattle.sparse_convert.proofs.serial.from_dense.push_column.Given as goal

abbrev pub invariant-loop-i : goal.invariant-loop-i
invariant-loop-i g l =
    let z = g.T.Zero.zero_value in
    l.coo ≡ appended l.initial.coo (filter (differs_from g.T.PartialEq.eq z)
    (map (λ i. (i, l.j, get_or l.column i z)) (below l.i)))
