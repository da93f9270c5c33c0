use Rattle.std.proofs.Common.{subst, ℕ}
use Rattle.std.specs.Prelude.{IfOk, MatchOption}
use Rattle.sparse_algebra.specs.Plain.{Plain, plain_product}
use Rattle.sparse_coo_dense.specs.CooPlain.{plain_of_coo}
use Rattle.sparse_compressed.specs.PlainOfLanes.{plain_of_rows}
use Rattle.sparse_dense_ops.specs.Solutions.{HasSameValues}
use Rattle.mtxkit_matrices.specs.Differences.{IsFirstDifference}
use Rattle.mtxkit_matrices.proofs.solutions.product_difference.Goals as goal

pub returns : goal.returns
returns g c =
    let R = g.T.Ring.ring in
    let f = g.T.Ring.value in
    let x = c.args.x.now in
    let b = c.args.b.now in
    let right = plain_of_rows R f c.in_ok-right.right in
    let product = plain_product R (plain_of_coo R f c.args.a.now) (plain_of_coo R f x) in
    let Says = λ (n m : ℕ) (p q : Plain R). IfOk c.first_difference.result
    (λ found. MatchOption found (HasSameValues R n m p q)
    (λ at. IsFirstDifference R n m p q at.row at.col)) in
    subst (λ m. Says b.nrows m product (plain_of_coo R f b)) c.requires.cols
    (subst (λ n. Says n x.ncols product (plain_of_coo R f b)) c.requires.rows
    (subst (λ (q : Plain R). Says c.args.a.now.nrows x.ncols product q) c.in_ok-right.ensures.plain
    (subst (λ (p : Plain R). Says p.rows p.cols p right) c.in_ok-product.ensures
    c.first_difference.ensures)))
