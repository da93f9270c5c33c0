use Rattle.std.proofs.Common.{◌≡◌, rules, ap, ◌∙◌}
use Rattle.std.specs.Int.{w128}
use Rattle.sparse_algebra.specs.Wrapping.{class_of}
use Rattle.mtxkit_eval.proofs.WideClasses.{element_of-wide}
use Rattle.mtxkit_eval.proofs.residues.W128Residues.of_integer.Goals as goal

pub returns : goal.returns
returns c =
    let is : c.new.result.number ≡ c.args.number = search rules in
    ap (class_of w128) is ∙ element_of-wide c.args.number c.ranges.number
