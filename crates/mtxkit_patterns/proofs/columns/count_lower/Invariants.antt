use Rattle.std.proofs.Common.{◌≡◌, ◌+◌}
use Rattle.sparse_pattern.specs.Raw.{entries_of}
use Rattle.mtxkit_patterns.specs.Columns.{count_lower}
use Rattle.mtxkit_patterns.proofs.columns.count_lower.Given as goal

abbrev pub invariant-loop-col : goal.invariant-loop-col
invariant-loop-col l = l.count + count_lower l.col-iterator ≡ count_lower (entries_of l.pattern)
