use Rattle.std.proofs.Common.{ap, ◌∙◌}
use Rattle.std.proofs.lemmas.Int.{to_z-of_z}
use Rattle.std.specs.Int.{w64}
use Rattle.sparse_algebra.specs.Wrapping.{class_of}
use Rattle.sparse_algebra.proofs.Integers.{element_of-class}
use Rattle.c_arrays.proofs.number.W64Number.from_number.Goals as goal

pub returns : goal.returns
returns c = ap (class_of w64) (c.new.ensures ∙ to_z-of_z w64 c.args.number c.ranges.number)
    ∙ element_of-class c.args.number c.ranges.number
