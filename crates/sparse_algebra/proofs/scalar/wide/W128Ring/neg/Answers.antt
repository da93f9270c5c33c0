use Rattle.std.proofs.Common.{◌∙◌, ap, rules}
use Rattle.std.specs.Int.{w128, int_wrapping_neg}
use Rattle.std.specs.Int.RustNames.{FitsSigned}
use Rattle.std.proofs.lemmas.Int.{to_z-of_z}
use Rattle.sparse_algebra.specs.Wrapping.{class_of_neg}
use Rattle.sparse_algebra.proofs.scalar.wide.W128Ring.neg.Goals as goal

pub returns : goal.returns
returns c =
    let x = c.args.self.number in
    let f : FitsSigned w128 c.wrapping_neg.result = search rules in
    class_of_neg w128 x _ c.args.self.in_range
    (to_z-of_z w128 c.wrapping_neg.result f ∙ c.wrapping_neg.ensures
    ∙ ap (int_wrapping_neg w128) (to_z-of_z w128 x c.args.self.in_range))
