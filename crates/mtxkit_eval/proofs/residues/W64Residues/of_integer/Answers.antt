use Rattle.std.proofs.Common.{◌≡◌, ◌^◌, rules, ap, sym, ◌∙◌}
use Rattle.std.specs.Int.{w64, cast_signed}
use Rattle.std.proofs.Math.Nat.{mod-eq_of_lt}
use Rattle.std.proofs.Math.Pow.{pow_pos}
use Rattle.sparse_algebra.specs.Residues.{residue}
use Rattle.sparse_algebra.specs.Wrapping.{class_of, class_of_bits}
use Rattle.mtxkit_eval.specs.Rings.{remainder}
use Rattle.mtxkit_eval.proofs.Remainders.{element_of-remainder}
use Rattle.mtxkit_eval.proofs.residues.W64Residues.of_integer.Goals as goal

pub returns : goal.returns
returns c =
    let m = 2 ^ 64 in
    let rest = c.remainder.result in
    let value : rest ≡ remainder m c.args.number = search rules in
    let number : c.new.result.number ≡ cast_signed w64 rest = search rules in
    ap (class_of w64) (number ∙ ap (cast_signed w64) (sym (mod-eq_of_lt c.remainder.ensures.below)))
    ∙ class_of_bits w64 rest
    ∙ ap (residue m (pow_pos 64)) value ∙ element_of-remainder m (pow_pos 64) c.args.number
