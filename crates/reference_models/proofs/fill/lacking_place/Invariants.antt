use Rattle.std.proofs.Common.{ℕ, ◌<◌, get_or}
use Rattle.std.specs.List.{Contains}
use Rattle.reference_models.specs.InnerClosure.{IsOfTriangle, base_pair}
use Rattle.reference_models.proofs.fill.lacking_place.Given as goal

abbrev pub invariant-loop-row : goal.invariant-loop-row
invariant-loop-row l = (q : ℕ) → q < l.row-index
    → IsOfTriangle l.triangle (get_or l.lane q 0) l.column
    → Contains l.set (base_pair (get_or l.lane q 0) l.column)
