use Rattle.std.proofs.Common.{ap, ◌∙◌, sym}
use Rattle.sparse_algebra.specs.Plain.{plain_transpose}
use Rattle.sparse_algebra.proofs.PlainLaws.{transpose_twice}
use Rattle.sparse_compressed.specs.PlainOfLanes.{plain_of_rows}
use Rattle.sparse_compressed.proofs.Arrays.{equal_decides}
use Rattle.sparse_compressed.proofs.laws.equal_law.Goals as goal

pub returns-clause-rows : goal.returns-clause-rows
returns-clause-rows g c = λ m n sm sn. equal_decides g.T.Ring.ring g.T.Ring.value g.T.PartialEq.eq
    g.met.T.Ring.eq_law g.T.Zero.zero_value m n sm sn

pub returns-clause-cols : goal.returns-clause-cols
returns-clause-cols g c = λ m n sm sn.
    let R = g.T.Ring.ring in
    let rows = returns-clause-rows g c m n sm sn in (
      λ h. ap (plain_transpose R) (rows.0 h),
      λ h. rows.1 (sym (transpose_twice R (plain_of_rows R g.T.Ring.value m))
          ∙ ap (plain_transpose R) h ∙ transpose_twice R (plain_of_rows R g.T.Ring.value n)),
    )
