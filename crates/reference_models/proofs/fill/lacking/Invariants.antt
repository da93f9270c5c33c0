use Rattle.std.proofs.Common.{ℕ, ◌<◌, get_or}
use Rattle.std.specs.List.{Contains}
use Rattle.sparse_pattern.specs.Raw.{IsEntry}
use Rattle.reference_models.specs.Pairs.{pair}
use Rattle.reference_models.specs.InnerClosure.{IsOfTriangle, base_pair, HasFillOf}
use Rattle.reference_models.proofs.fill.lacking.Given as goal

abbrev pub invariant-loop-column : goal.invariant-loop-column
invariant-loop-column l = (row column : ℕ) → column < l.column → IsEntry l.pattern column row
    → IsOfTriangle l.triangle row column → Contains l.set (base_pair row column)

abbrev pub invariant-loop-i : goal.invariant-loop-i
invariant-loop-i l = (q : ℕ) → q < l.i-index
    → HasFillOf (get_or l.set q (pair 0 0)).0 (get_or l.set q (pair 0 0)).1 l.set
