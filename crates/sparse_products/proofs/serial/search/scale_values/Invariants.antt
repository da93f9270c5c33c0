use Rattle.std.proofs.Common.{◌≡◌, ◌+◌, ◌≤◌, ◌<◌, ℕ, get_or}
use Rattle.sparse_products.proofs.serial.search.scale_values.Given as goal

abbrev pub invariant-loop-value : goal.invariant-loop-value
invariant-loop-value g l =
    let f = g.T.Ring.value in
    let z = g.T.Zero.zero_value in
    record {
      passed : (k : ℕ) → k < l.value-index → f (get_or l.values k z) ≡ g.T.Ring.ring.mul
          (f l.scale) (f (get_or l.initial.values k z));
      left : (k : ℕ) → l.value-index ≤ k → get_or l.values k z ≡ get_or l.initial.values k z;
      counted : l.steps ≡ l.initial.steps + l.value-index;
    }
