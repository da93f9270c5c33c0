use Rattle.std.proofs.Common.{◌≡◌, ◌%◌, rules, ap, ◌∙◌}
use Rattle.std.proofs.Math.Nat.{mod-mod}
use Rattle.sparse_algebra.specs.Moduli.{modulus, modulus_pos, mod_class}
use Rattle.sparse_algebra.specs.Residues.{same_class}
use Rattle.mtxkit_eval.specs.Rings.{remainder}
use Rattle.mtxkit_eval.proofs.Remainders.{element_of-remainder}
use Rattle.mtxkit_eval.proofs.residues.ModResidues.of_integer.Goals as goal

pub returns : goal.returns
returns g c =
    let m = modulus g.row.M in
    let some = modulus_pos g.row.M in
    let rest = c.remainder.result in
    let value : rest ≡ remainder m c.args.number = search rules in
    ap (mod_class g.row.M) c.new.ensures
    ∙ same_class m some (rest % m) rest (mod-mod rest m)
    ∙ ap (mod_class g.row.M) value ∙ element_of-remainder m some c.args.number
