use Rattle.std.proofs.Common.{ap, ◌∙◌}
use Rattle.sparse_algebra.specs.Plain.{plain_negation}
use Rattle.sparse_compressed.specs.PlainOfLanes.{plain_of_rows}
use Rattle.sparse_laws.proofs.OkEquations.{ok_further, negation_twice}
use Rattle.sparse_laws.proofs.operations.negative_twice.Goals as goal

pub returns : goal.returns
returns g c =
    let R = g.T.Ring.ring in
    let plain = plain_of_rows R g.T.Ring.value in
    ok_further plain c.neg_csr-2.result
    (ap (plain_negation R) c.in_ok-negative.ensures ∙ negation_twice R (plain c.args.a.now))
    c.neg_csr-2.ensures
