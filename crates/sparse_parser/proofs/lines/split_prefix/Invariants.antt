use Rattle.std.proofs.Common.{ℕ, Bool, length, ◌-◌, ◌≤◌}
use Rattle.sparse_parser.specs.InnerBytes.{Decides}
use Rattle.sparse_parser.proofs.LeadingBytes.{IsPassed}
use Rattle.sparse_parser.proofs.lines.split_prefix.Given as goal

abbrev pub invariant-loop-at : goal.invariant-loop-at
invariant-loop-at g l =
    (l.at ≤ length l.text)
    × ((p : ℕ → Bool) → Decides (goal.F-post g l.passes) p → IsPassed p l.text l.at)

abbrev pub decreases-loop-at : goal.decreases-loop-at
decreases-loop-at g l = length l.text - l.at
