use Rattle.std.proofs.Common.{◌≡◌, ap, sym, ◌∙◌, arith}
use Rattle.nalgebra_sparse.specs.Plain.{Plain, plain_product, plain_identity}
use Rattle.nalgebra_sparse.specs.Raw.{nnz_of}
use Rattle.nalgebra_sparse.specs.PlainOfLanes.{plain_of_rows}
use Rattle.nalgebra_sparse.specs.ScalarProducts.{triples_of}
use Rattle.tests_acceptance.proofs.CountedSquares.{identity_steps}
use Rattle.tests_acceptance.proofs.counting.steps_of_an_identity.Goals as goal

pub spmm_csr_prealloc_unchecked_counted-requires-clause-covered :
    goal.spmm_csr_prealloc_unchecked_counted-requires-clause-covered
spmm_csr_prealloc_unchecked_counted-requires-clause-covered g c =
    let R = g.T.Ring.ring in
    let f = g.T.Ring.value in
    let m = c.in_ok-matrix.matrix in
    let a : Plain R = plain_of_rows R f m in
    let is : a ≡ plain_identity R c.args.n = c.in_ok-matrix.ensures.plain in
    let stands = c.stands_law.ensures.rows m c.in_ok-matrix.ensures.sound in
    let square : plain_product R a a ≡ a =
    ap (λ e. plain_product R e a) (is ∙ sym (ap (λ (p : Plain R). plain_identity R p.rows) is))
    ∙ c.identity_product_law.ensures.left a stands.proper stands.within in
    let own : plain_product R a a ≡ plain_of_rows R f c.in_ok-square.square =
    square ∙ is ∙ sym c.in_ok-square.ensures.plain in
    λ i j h. ap (λ (p : Plain R). p.has i j) (sym own) ∙ h

pub returns-clause-least : goal.returns-clause-least
returns-clause-least g c =
    let R = g.T.Ring.ring in
    let f = g.T.Ring.value in
    let m = c.in_ok-matrix.matrix in
    let sound = c.in_ok-matrix.ensures.sound in
    let zero : c.new-steps.result ≡ 0 = c.new-steps.ensures in
    let counts = identity_steps R f m c.args.n sound
    (c.stands_law.ensures.rows m sound) c.in_ok-matrix.ensures.plain in
    let triples : triples_of m.pattern m.pattern ≡ c.args.n = counts.1 in
    let steps = c.in_ok-spmm_csr_prealloc_unchecked_counted.ensures.all_multiplied in
    omega arith

pub returns-clause-most : goal.returns-clause-most
returns-clause-most g c =
    let R = g.T.Ring.ring in
    let f = g.T.Ring.value in
    let m = c.in_ok-matrix.matrix in
    let k = c.in_ok-square.square in
    let sound = c.in_ok-matrix.ensures.sound in
    let zero : c.new-steps.result ≡ 0 = c.new-steps.ensures in
    let counts = identity_steps R f m c.args.n sound
    (c.stands_law.ensures.rows m sound) c.in_ok-matrix.ensures.plain in
    let own = identity_steps R f k c.args.n c.in_ok-square.ensures.sound
    (c.stands_law.ensures.rows k c.in_ok-square.ensures.sound) c.in_ok-square.ensures.plain in
    let factors : nnz_of m.pattern ≡ c.args.n = counts.0 in
    let places : nnz_of k.pattern ≡ c.args.n = own.0 in
    let triples : triples_of m.pattern m.pattern ≡ c.args.n = counts.1 in
    let steps = c.in_ok-spmm_csr_prealloc_unchecked_counted.ensures.no_more in
    omega arith
