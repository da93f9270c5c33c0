use Rattle.std.proofs.Common.{◌≡◌, ◌≤◌, All, vec_len}
use Rattle.std.specs.Prelude.{vec_capacity}
use Rattle.sparse_compressed.proofs.zeros_identity.ones.Given as goal

abbrev pub invariant-loop : goal.invariant-loop
invariant-loop g l = record {
  room : l.n ≤ vec_capacity l.ones;
  count : vec_len l.ones ≡ l.counter;
  ones : All (λ x. g.T.Ring.value x ≡ g.T.Ring.ring.one) l.ones.items;
}
