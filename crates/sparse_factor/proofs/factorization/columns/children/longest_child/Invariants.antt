use Rattle.std.proofs.Common.{◌≡◌, ◌≢◌, ℕ, suc, ◌<◌, length, map}
use Rattle.sparse_factor.specs.InnerChildren.{IsOnList}
use Rattle.sparse_factor.proofs.factorization.columns.children.longest_child.Given as goal

abbrev pub invariant-loop-head : goal.invariant-loop-head
invariant-loop-head g l =
    let nexts = map g.C.Count.number l.nexts in
    record {
      within : l.head < length l.columns.offsets.items;
      some : l.first ≢ 0 → l.longest ≢ 0;
      on_list : (k : ℕ) → l.longest ≡ suc k → IsOnList nexts l.first k;
      rest : (k : ℕ) → IsOnList nexts l.head k → IsOnList nexts l.first k;
    }

abbrev pub decreases-loop-head : goal.decreases-loop-head
decreases-loop-head g l = l.head
