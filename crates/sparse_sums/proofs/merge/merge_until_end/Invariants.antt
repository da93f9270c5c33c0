use Rattle.std.proofs.Common.{◌+◌, ◌-◌, ◌≤◌, length}
use Rattle.sparse_sums.specs.InnerAdding.{IsAdding}
use Rattle.sparse_sums.proofs.merge.merge_until_end.Given as goal

abbrev pub invariant-loop-p : goal.invariant-loop-p
invariant-loop-p g l =
    let R = g.T.Ring.ring in
    let f = g.T.Ring.value in
    record {
      first : l.p ≤ length l.a_indices;
      second : l.q ≤ length l.b_indices;
      room : g.O.Output.room l.initial.output ≤ g.O.Output.room l.output + (l.p + l.q);
      added : IsAdding R (g.O.Output.indices l.initial.output) (g.O.Output.indices l.output)
          (g.O.Output.elements R f l.initial.output) (g.O.Output.elements R f l.output)
          l.a_indices (g.A.Operand.elements R f l.a) l.b_indices (g.B.Operand.elements R f l.b)
          l.p l.q;
      kept : g.O.Output.keeps l.initial.output l.output;
    }

abbrev pub decreases-loop-p : goal.decreases-loop-p
decreases-loop-p g l = length l.a_indices + length l.b_indices - (l.p + l.q)
