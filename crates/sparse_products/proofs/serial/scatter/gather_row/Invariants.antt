use Rattle.std.proofs.Common.{◌≡◌, ◌+◌, ◌<◌, ◌≤◌, ℕ, take, get_or}
use Rattle.sparse_products.specs.InnerProducts.{IsExtracted}
use Rattle.sparse_products.proofs.serial.scatter.gather_row.Given as goal

abbrev pub invariant-loop-at : goal.invariant-loop-at
invariant-loop-at g l =
    let R = g.T.Ring.ring in
    let f = g.T.Ring.value in
    let z = g.T.Zero.zero_value in
    record {
      gathered : (p : ℕ) → p < l.at → f (get_or l.values p z) ≡ R.add
          (R.mul (f l.beta) (f (get_or l.initial.values p z)))
          (f (get_or l.initial.row (get_or l.indices p 0) z));
      others : (p : ℕ) → l.at ≤ p → get_or l.values p z ≡ get_or l.initial.values p z;
      extracted : IsExtracted z (take l.at l.indices) l.initial.row l.row;
      counted : l.steps ≡ l.initial.steps + l.at;
    }
