use Rattle.std.proofs.Common.{◌≡◌, ◌+◌, ◌≤◌, ◌++◌, drop}
use Rattle.sparse_sums.proofs.merge.append_rest.Given as goal

abbrev pub invariant-loop-k : goal.invariant-loop-k
invariant-loop-k g l =
    let R = g.T.Ring.ring in
    let f = g.T.Ring.value in
    record {
      from : l.from ≤ l.k;
      indices : g.O.Output.indices l.initial.output ++ drop l.from l.indices
          ≡ g.O.Output.indices l.output ++ drop l.k l.indices;
      elements : g.O.Output.elements R f l.initial.output
          ++ drop l.from (g.A.Operand.elements R f l.a)
          ≡ g.O.Output.elements R f l.output ++ drop l.k (g.A.Operand.elements R f l.a);
      room : g.O.Output.room l.initial.output + l.from ≡ g.O.Output.room l.output + l.k;
      kept : g.O.Output.keeps l.initial.output l.output;
    }
