use Rattle.std.proofs.Common.{ap, sym, ◌∙◌, to_z, of_z}
use Rattle.std.proofs.lemmas.Int.{to_z-of_z}
use Rattle.std.specs.Int.{w64}
use Rattle.sparse_algebra.specs.Wrapping.{wrapping_ring}
use Rattle.sparse_algebra.specs.Integers.{element_of}
use Rattle.sparse_algebra.proofs.Integers.{element_of-class}
use Rattle.c_arrays.proofs.number.W64Number.number.Goals as goal

pub returns-clause-means : goal.returns-clause-means
returns-clause-means c =
    let number = c.args.self.number in
    ap (element_of (wrapping_ring w64)) (ap (λ z. to_z w64 (of_z w64 z)) c.get.ensures
    ∙ to_z-of_z w64 number c.args.self.in_range)
    ∙ sym (element_of-class number c.args.self.in_range)
