use Rattle.std.proofs.Common.{sym, ◌∙◌}
use Rattle.std.specs.Int.{w64}
use Rattle.nalgebra_sparse.specs.Meaning.{values_of}
use Rattle.nalgebra_sparse.specs.Numbers.{w64_number}
use Rattle.nalgebra_sparse.specs.OneMatrix.{coo_of_cols}
use Rattle.nalgebra_sparse.specs.PlainOfLanes.{plain_of_cols}
use Rattle.nalgebra_sparse.specs.Wrapping.{wrapping_ring, class_of}
use Rattle.nalgebra_sparse.specs.WrappingValues.{w64_value}
use Rattle.nalgebra_sparse.specs.MatrixLists.{columns-list}
use Rattle.examples_theorems.proofs.ReadValues.{plain-read}
use Rattle.examples_theorems.proofs.converter.by_cols.Goals as goal

pub returns : goal.returns
returns c =
    let R = wrapping_ring w64 in
    let list = c.in_ok-list.list in
    let matrix = c.in_ok-matrix.matrix in (
      plain_of_cols R w64_value matrix,
      (
        values_of w64_number list,
        c.in_ok-list.ensures.ok,
        plain-read w64_number R (class_of w64) list ∙ sym c.in_ok-matrix.ensures.plain,
      ),
      (
        values_of w64_number (coo_of_cols matrix),
        c.in_ok-other.ensures,
        plain-read w64_number R (class_of w64) (coo_of_cols matrix)
            ∙ columns-list R w64_value matrix,
      ),
    )
