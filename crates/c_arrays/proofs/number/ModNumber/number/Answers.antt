use Rattle.std.proofs.Common.{ap, ◌∙◌}
use Rattle.sparse_algebra.specs.Moduli.{mod_class}
use Rattle.sparse_algebra.proofs.Integers.{element_of-short, element_of-long}
use Rattle.c_arrays.proofs.number.ModNumber.number.Goals as goal

pub returns-then-number-clause-means : goal.returns-then-number-clause-means
returns-then-number-clause-means g c =
    element_of-short g.row.M c.get-number.result c.if-number.true
    ∙ ap (mod_class g.row.M) c.get-number.ensures.number

pub returns-else-number-clause-means : goal.returns-else-number-clause-means
returns-else-number-clause-means g c =
    element_of-long g.row.M c.get-number.result c.get-number.ensures.below c.if-number.false g.M.fits.fits
    ∙ ap (mod_class g.row.M) c.get-number.ensures.number
