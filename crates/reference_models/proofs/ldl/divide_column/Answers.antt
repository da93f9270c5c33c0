use Rattle.std.proofs.Common.{◌≡◌, ◌<◌, ℕ, inl, inr, ap, sym, ◌∙◌, arith}
use Rattle.sparse_algebra.proofs.Cases.{lt_add_one_cases}
use Rattle.sparse_coo_dense.specs.DensePlain.{plain_of_dense}
use Rattle.sparse_dense_ops.specs.SparseVectors.{elements}
use Rattle.reference_models.specs.DenseFactors.{dense_symmetric}
use Rattle.reference_models.specs.InnerEquations.{left_at}
use Rattle.reference_models.proofs.Equations.{entry_unwritten, entry_written, left_of-same}
use Rattle.reference_models.proofs.ldl.divide_column.Goals as goal

pub loop-i-preserved : goal.loop-i-preserved
loop-i-preserved g c =
    let R = g.T.Ring.ring in
    let f = g.T.Ring.value in
    let z = g.T.Zero.zero_value in
    let zero = g.met.T.Ring.zero_law in
    let a = c.args.a.now in
    let first = c.args.l.now in
    let d = c.args.d.now in
    let j = c.args.j in
    let i = c.loop-i.i in
    let x = c.loop-i.l in
    let inv = c.loop-i.invariant in
    let v = c.mul.result in
    let e = f c.args.inverse in
    let size = c.requires.size in
    let values = c.set.ensures.values in
    let lt : j < i = omega (arith, c.loop-i.auto.i) in
    let within : i < a.nrows = omega (arith, c.loop-i-test.true, c.nrows-i-end.ensures) in
    let left : f c.find_left-left.result ≡ left_at R f z a first d j i =
    c.find_left-left.ensures ∙ left_of-same R (dense_symmetric R f a).value
    (plain_of_dense R f x).value (plain_of_dense R f first).value (elements R f z d) j i
    (λ k b less. inv.kept k b (λ same _ _. absurd (omega (arith, same, less)))) in
    let old : (k b : ℕ) → (k ≡ i → b ≡ j → ⊥)
    → (plain_of_dense R f c.set.new.self).value k b ≡ (plain_of_dense R f x).value k b =
    λ k b ne. ap (λ y. (plain_of_dense R f y).value k b) c.set.ensures.exact
    ∙ entry_unwritten R f z zero a first x d j i v size lt within inv.rows inv.cols inv.full k b
    ne in
    let new : (plain_of_dense R f c.set.new.self).value i j
    ≡ R.mul (left_at R f z a first d j i) e =
    ap (λ y. (plain_of_dense R f y).value i j) c.set.ensures.exact
    ∙ entry_written R f z zero a first x d j i v size lt within inv.rows inv.cols inv.full
    ∙ c.mul.ensures ∙ ap (λ w. R.mul w e) left in
    record {
      rows = values.rows ∙ inv.rows;
      cols = values.cols ∙ inv.cols;
      full = let r = values.rows in let w = values.cols in rw (r, w) values.count;
      divided = λ k more below. elim (lt_add_one_cases k i below) [
        | inl less ↦ old k j (λ same _. absurd (omega (arith, same, less)))
            ∙ inv.divided k more less
        | inr is ↦ ap (λ k. (plain_of_dense R f c.set.new.self).value k j) is ∙ new
            ∙ ap (λ k. R.mul (left_at R f z a first d j k) e) (sym is)
      ];
      kept = λ k b ne. old k b (λ row col. ne col (omega (arith, row, lt)) (omega (arith, row)))
          ∙ inv.kept k b (λ same more less. ne same more (omega arith));
    }
