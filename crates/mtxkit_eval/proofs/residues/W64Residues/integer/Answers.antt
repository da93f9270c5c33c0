use Rattle.std.proofs.Common.{◌≡◌, to_z, of_z, rules, ap, sym, ◌∙◌}
use Rattle.std.specs.Int.{w64, w128}
use Rattle.sparse_algebra.specs.Wrapping.{wrapping_ring}
use Rattle.sparse_algebra.specs.Integers.{element_of}
use Rattle.sparse_algebra.proofs.Integers.{element_of-class}
use Rattle.mtxkit_eval.proofs.residues.W64Residues.integer.Goals as goal

pub returns-clause-meant : goal.returns-clause-meant
returns-clause-meant c =
    let number = c.args.self.number in
    let is : to_z w128 (of_z w128 c.from.result) ≡ number = search rules in
    ap (element_of (wrapping_ring w64)) is ∙ sym (element_of-class number c.args.self.in_range)
