use Rattle.std.proofs.Common.{ap, sym, ◌∙◌}
use Rattle.std.proofs.lemmas.Int.{to_z-of_z}
use Rattle.std.specs.Int.{w64}
use Rattle.sparse_algebra.specs.Plain.{plain_scaled}
use Rattle.sparse_algebra.specs.Integers.{element_of}
use Rattle.sparse_c.proofs.operations.division.quotient_of.Goals as goal

pub returns-clause-quotient : goal.returns-clause-quotient
returns-clause-quotient g c =
    let R = g.T.Ring.ring in
    let f = g.T.Ring.value in
    let q = c.in_ok-div_scalar_csr.ensures.quotient in
    let divisor = c.from_number.ensures
    ∙ ap (element_of R) (to_z-of_z w64 c.args.divisor c.ranges.divisor) in (
      f q.0,
      ap (λ s. R.mul s (f q.0)) (sym divisor) ∙ q.1,
      q.2 ∙ ap (plain_scaled R (f q.0)) c.in_ok-a.ensures.plain,
    )
