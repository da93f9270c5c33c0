use Rattle.std.proofs.Common.{◌*◌, ◌%◌, ap, ◌∙◌}
use Rattle.sparse_algebra.proofs.ModClasses.{mod_class_of, mod_class_mul}
use Rattle.sparse_algebra.proofs.scalar.residues.ModRing.mul.Goals as goal

pub returns : goal.returns
returns g c =
    let x = c.args.self.number in
    let y = c.args.other.number in
    mod_class_of g.row.M (x * y) _ (ap (λ n. (x * y) % n) c.modulus.ensures)
    ∙ mod_class_mul g.row.M x y
