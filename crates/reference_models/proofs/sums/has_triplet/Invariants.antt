use Rattle.std.proofs.Common.{◌≡◌}
use Rattle.std.specs.List.{list_any}
use Rattle.sparse_algebra.specs.Plain.{is_at}
use Rattle.reference_models.proofs.sums.has_triplet.Given as goal

abbrev pub invariant-loop-row : goal.invariant-loop-row
invariant-loop-row g l =
    list_any (is_at l.i l.j) l.row-iterator ≡ list_any (is_at l.i l.j) l.coo.triplets
