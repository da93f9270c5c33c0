use Rattle.std.proofs.Common.{◌≡◌, ℕ, ◌<◌, ◌≤◌, get_or}
use Rattle.std.specs.List.{Contains}
use Rattle.reference_models.specs.Pairs.{pair}
use Rattle.reference_models.proofs.fill.lacking_fill.Given as goal

abbrev pub invariant-loop-j : goal.invariant-loop-j
invariant-loop-j l = (q : ℕ) → q < l.j-index → (get_or l.set q (pair 0 0)).1 ≡ l.k
    → l.k < (get_or l.set q (pair 0 0)).0 → (get_or l.set q (pair 0 0)).0 ≤ l.i
    → Contains l.set (pair l.i (get_or l.set q (pair 0 0)).0)
