use Rattle.std.proofs.Common.{ap, ◌∙◌}
use Rattle.sparse_algebra.specs.Plain.{plain_identity, plain_product}
use Rattle.sparse_compressed.specs.PlainOfLanes.{plain_of_rows}
use Rattle.sparse_laws.proofs.OkEquations.{ok_further}
use Rattle.sparse_laws.proofs.operations.times_identity.Goals as goal

pub returns : goal.returns
returns g c =
    let R = g.T.Ring.ring in
    let plain = plain_of_rows R g.T.Ring.value in
    let a = plain c.args.a.now in
    let has = c.stands_law.ensures.rows c.args.a.now c.values.ensures.sound in
    ok_further plain c.mul_csr.result
    (ap (plain_product R a) c.in_ok-identity.ensures.plain
    ∙ ap (λ n. plain_product R a (plain_identity R n)) c.ncols.ensures
    ∙ c.identity_product_law.ensures.right a has.proper has.within) c.mul_csr.ensures
