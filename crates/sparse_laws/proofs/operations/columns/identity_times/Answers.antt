use Rattle.std.proofs.Common.{ap, ◌∙◌}
use Rattle.sparse_algebra.specs.Plain.{Plain, plain_identity, plain_product}
use Rattle.sparse_compressed.specs.PlainOfLanes.{plain_of_cols}
use Rattle.sparse_laws.proofs.OkEquations.{ok_further}
use Rattle.sparse_laws.proofs.operations.columns.identity_times.Goals as goal

pub returns : goal.returns
returns g c =
    let R = g.T.Ring.ring in
    let plain = plain_of_cols R g.T.Ring.value in
    let a = plain c.args.a.now in
    let has = c.stands_law.ensures.cols c.args.a.now c.values.ensures.sound in
    ok_further plain c.mul_csc.result
    (ap (λ (x : Plain R). plain_product R x a) c.in_ok-identity.ensures.plain
    ∙ ap (λ n. plain_product R (plain_identity R n) a) c.nrows.ensures
    ∙ c.identity_product_law.ensures.left a has.proper has.within) c.mul_csc.ensures
