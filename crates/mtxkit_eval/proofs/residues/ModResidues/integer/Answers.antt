use Rattle.std.proofs.Common.{◌≡◌, pos, to_z, rules, ap, sym, ◌∙◌}
use Rattle.std.specs.Int.{w128}
use Rattle.std.proofs.Math.Nat.{mod-eq_of_lt}
use Rattle.sparse_algebra.specs.Moduli.{modulus, modulus_pos, mod_ring}
use Rattle.sparse_algebra.specs.Integers.{element_of}
use Rattle.mtxkit_eval.specs.Rings.{reduced_modulo}
use Rattle.mtxkit_eval.proofs.Remainders.{element_of-natural}
use Rattle.mtxkit_eval.proofs.residues.ModResidues.integer.Goals as goal

pub returns-clause-meant : goal.returns-clause-meant
returns-clause-meant g c =
    let m = g.row.M in
    let is : to_z w128 c.get.result ≡ pos c.args.self.number = search rules in
    ap (element_of (mod_ring m)) is
    ∙ element_of-natural (modulus m) (modulus_pos m) c.args.self.number

pub returns-clause-reduced : goal.returns-clause-reduced
returns-clause-reduced g c =
    let m = g.row.M in
    let is : to_z w128 c.get.result ≡ pos c.args.self.number = search rules in
    ap (reduced_modulo m) is ∙ ap pos (mod-eq_of_lt c.args.self.below) ∙ sym is
