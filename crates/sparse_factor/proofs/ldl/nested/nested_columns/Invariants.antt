use Rattle.std.proofs.Common.{◌≡◌, ℕ, true, false, length, get_or}
use Rattle.sparse_factor.specs.InnerNested.{IsNested}
use Rattle.sparse_factor.proofs.ldl.nested.nested_columns.Given as goal

abbrev pub invariant-loop-k : goal.invariant-loop-k
invariant-loop-k l = record {
  count : length l.nested.items ≡ l.k;
  each : (i : ℕ) → get_or l.nested.items i false ≡ true → IsNested l.pattern i;
}
