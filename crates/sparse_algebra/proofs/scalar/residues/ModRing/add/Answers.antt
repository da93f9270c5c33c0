use Rattle.std.proofs.Common.{◌-◌, ◌≤◌, ap, ◌∙◌, arith}
use Rattle.sparse_algebra.specs.Moduli.{modulus, mod_class}
use Rattle.sparse_algebra.proofs.ModClasses.{mod_class_add, mod_class_over}
use Rattle.sparse_algebra.proofs.scalar.residues.ModRing.add.Goals.{then-other-room}
use Rattle.sparse_algebra.proofs.scalar.residues.ModRing.add.Goals.{else-other-room}
use Rattle.sparse_algebra.proofs.scalar.residues.ModRing.add.Goals as goal

pub returns : goal.returns
returns g c =
    let m = g.row.M in
    let x = c.args.self.number in
    let y = c.args.other.number in
    elim c.if-other-room.branch [
      | then-other-room w ↦ ap (mod_class m) w.number-is ∙ mod_class_add m x y
      | else-other-room w ↦
          let past : modulus m - x ≤ y = omega (arith, w.if-other-room.false, c.modulus.ensures) in
          ap (mod_class m) (w.number-is ∙ ap (λ n. y - (n - x)) c.modulus.ensures)
          ∙ mod_class_over m x y c.args.self.below past ∙ mod_class_add m x y
    ]
