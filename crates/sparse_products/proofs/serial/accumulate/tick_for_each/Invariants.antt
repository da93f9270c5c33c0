use Rattle.std.proofs.Common.{◌≡◌, ◌+◌}
use Rattle.sparse_products.proofs.serial.accumulate.tick_for_each.Given as goal

abbrev pub invariant-loop : goal.invariant-loop
invariant-loop l = l.steps ≡ l.initial.steps + l.index
