use Rattle.std.proofs.Common.{◌≡◌, ℕ, ◌<◌, get_or}
use Rattle.reference_models.specs.Pairs.{pair}
use Rattle.reference_models.proofs.fill.has.Given as goal

abbrev pub invariant-loop-a : goal.invariant-loop-a
invariant-loop-a l = (q : ℕ) → q < l.a-index → get_or l.set q (pair 0 0) ≡ pair l.i l.j → ⊥
