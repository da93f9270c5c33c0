use Rattle.std.proofs.Common.{◌≡◌}
use Rattle.sparse_algebra.specs.Plain.{is_at}
use Rattle.sparse_algebra.specs.Sums.{sum_by, where_true}
use Rattle.reference_models.proofs.sums.sum_at.Given as goal

abbrev pub invariant-loop-row : goal.invariant-loop-row
invariant-loop-row g l =
    let R = g.T.Ring.ring in
    let f = g.T.Ring.value in
    R.add (f l.sum) (sum_by R (λ t. where_true R (is_at l.i l.j t) (f t.2)) l.row-iterator)
    ≡ sum_by R (λ t. where_true R (is_at l.i l.j t) (f t.2)) l.coo.triplets
