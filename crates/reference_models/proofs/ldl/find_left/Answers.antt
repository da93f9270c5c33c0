use Rattle.std.proofs.Common.{◌≡◌, ◌<◌, length, ap, subst, ◌∙◌, arith}
use Rattle.std.proofs.lemmas.List.{get_or_default}
use Rattle.sparse_algebra.specs.Sums.{sum_below}
use Rattle.sparse_coo_dense.specs.DensePlain.{plain_of_dense}
use Rattle.sparse_factor.specs.InnerFactors.{term}
use Rattle.sparse_dense_ops.specs.SparseVectors.{elements}
use Rattle.reference_models.specs.DenseFactors.{dense_symmetric}
use Rattle.reference_models.proofs.Equations.{is_left_of, read, term_off}
use Rattle.reference_models.proofs.ldl.find_left.Goals as goal

pub loop-k-preserved : goal.loop-k-preserved
loop-k-preserved g c =
    let R = g.T.Ring.ring in
    let f = g.T.Ring.value in
    let z = g.T.Zero.zero_value in
    let l = c.args.l.now in
    let d = c.args.d.now in
    let i = c.args.i in
    let j = c.args.j in
    let k = c.loop-k.k in
    let size = c.requires.size in
    let lt : k < j = omega (arith, c.loop-k-test.true) in
    let col : k < l.ncols = omega (arith, lt, c.requires.lower, c.requires.row, size.cols) in
    let within : k < length d = omega (arith, lt, c.requires.lower, c.requires.row, size.pivots) in
    let upper : f c.get.result ≡ (plain_of_dense R f l).value i k =
    read R f z g.met.T.Ring.zero_law l i k c.get.result size.full
    (omega (arith, c.requires.row, size.rows)) col c.get.ensures.value in
    let pivot : f c.index-d-k.result ≡ elements R f z d k =
    ap f (c.index-d-k.is ∙ get_or_default d k c.index-d-k.result z within) in
    let lower : f c.get-in-loop-k.result ≡ (plain_of_dense R f l).value j k =
    read R f z g.met.T.Ring.zero_law l j k c.get-in-loop-k.result size.full
    (omega (arith, c.requires.lower, c.requires.row, size.rows)) col
    c.get-in-loop-k.ensures.value in
    let product : f c.mul-in-loop-k.result
    ≡ term R (plain_of_dense R f l).value (elements R f z d) i j k =
    c.mul-in-loop-k.ensures
    ∙ ap (λ x. R.mul x (f c.get-in-loop-k.result)) (c.mul.ensures
    ∙ ap (λ x. R.mul x (f c.index-d-k.result)) upper
    ∙ ap (R.mul ((plain_of_dense R f l).value i k)) pivot)
    ∙ ap (R.mul (R.mul ((plain_of_dense R f l).value i k) (elements R f z d k))) lower in
    term_off R ((dense_symmetric R f c.args.a.now).value i j)
    (term R (plain_of_dense R f l).value (elements R f z d) i j) k (f c.loop-k.left)
    (f c.add-left.result) c.loop-k.invariant
    (c.add-left.ensures ∙ ap (R.add (f c.loop-k.left)) (c.neg.ensures ∙ ap R.neg product))

pub returns : goal.returns
returns g c =
    let R = g.T.Ring.ring in
    let f = g.T.Ring.value in
    let m = (dense_symmetric R f c.args.a.now).value in
    let l = (plain_of_dense R f c.args.l.now).value in
    let d = elements R f g.T.Zero.zero_value c.args.d.now in
    let i = c.args.i in
    let j = c.args.j in
    let all : c.loop-k.k ≡ j = omega (arith, c.loop-k-test.false, c.loop-k.auto.k-end) in
    is_left_of R m l d j i (f c.loop-k.left)
    (subst (λ k. R.add (sum_below R k (term R l d i j)) (f c.loop-k.left) ≡ m i j) all
    c.loop-k.invariant)
