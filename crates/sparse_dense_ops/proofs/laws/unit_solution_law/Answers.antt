use Rattle.std.proofs.Common.{◌∙◌, ap}
use Rattle.sparse_dense_ops.proofs.UniqueSolutions.{one_solution, one_transposed_solution}
use Rattle.sparse_dense_ops.proofs.laws.unit_solution_law.Goals as goal

pub returns-clause-lower : goal.returns-clause-lower
returns-clause-lower g c = λ a x y b proper square unit.
    let R = g.T.Ring.ring in
    one_solution R a proper square
    (λ k lt. (R.one, ap (λ v. R.mul v R.one) (unit k lt) ∙ R.laws.mul_one R.one)) x y b b.cols

pub returns-clause-transposed : goal.returns-clause-transposed
returns-clause-transposed g c = λ a x y b proper square unit.
    let R = g.T.Ring.ring in
    one_transposed_solution R a proper square
    (λ k lt. (R.one, ap (λ v. R.mul v R.one) (unit k lt) ∙ R.laws.mul_one R.one)) x y b b.cols
