use Rattle.std.proofs.Common.{ap, ◌∙◌}
use Rattle.sparse_algebra.specs.Integers.{element_of}
use Rattle.sparse_c.proofs.Combined.{IsSumOf-difference}
use Rattle.sparse_c.proofs.operations.combining.scales.Goals as goal

pub returns-in-Difference-clause-sum : goal.returns-in-Difference-clause-sum
returns-in-Difference-clause-sum g c =
    let R = g.T.Ring.ring in
    let f = g.T.Ring.value in
    IsSumOf-difference R c.args.how (element_of R c.args.alpha) (element_of R c.args.beta)
    (f c.one-in-Difference.result) (f c.neg.result) c.in-Difference.is
    c.one-in-Difference.ensures (c.neg.ensures ∙ ap R.neg c.one-in-Difference-2.ensures)
