use Rattle.std.proofs.Common.{◌-◌, ap, ◌∙◌}
use Rattle.sparse_algebra.specs.Moduli.{mod_class}
use Rattle.sparse_algebra.proofs.ModClasses.{mod_class_neg, mod_class_neg_zero}
use Rattle.sparse_algebra.proofs.scalar.residues.ModRing.neg.Goals.{then-self-eq0, else-self-eq0}
use Rattle.sparse_algebra.proofs.scalar.residues.ModRing.neg.Goals as goal

pub returns : goal.returns
returns g c =
    let m = g.row.M in
    let x = c.args.self.number in
    elim c.if-self-eq0.branch [
      | then-self-eq0 w ↦ ap (mod_class m) w.number-is ∙ mod_class_neg_zero m x w.if-self-eq0.true
      | else-self-eq0 w ↦ ap (mod_class m) (w.number-is ∙ ap (λ n. n - x) w.modulus.ensures)
          ∙ mod_class_neg m x c.args.self.below
    ]
