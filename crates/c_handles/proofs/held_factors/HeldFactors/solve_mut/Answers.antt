use Rattle.std.proofs.Common.{sym, subst}
use Rattle.std.specs.Prelude.{OnOk}
use Rattle.sparse_algebra.specs.WrappingValues.{w64_value}
use Rattle.sparse_coo_dense.specs.DensePlain.{plain_of_dense}
use Rattle.sparse_dense_ops.specs.Solutions.{IsSolution}
use Rattle.c_arrays.specs.Arrays.{ring64}
use Rattle.c_handles.specs.Factored.{product_in}
use Rattle.c_handles.specs.declared.held_factors.HeldFactors.{HeldFactors}
use Rattle.c_handles.proofs.held_factors.HeldFactors.solve_mut.Goals as goal

pub returns-in-Natural-clause-solved : goal.returns-in-Natural-clause-solved
returns-in-Natural-clause-solved c = subst (λ (s : HeldFactors). IsSolution ring64 (product_in s)
    (plain_of_dense ring64 w64_value c.solve_mut.new.b)
    (plain_of_dense ring64 w64_value c.args.b.now)) (sym c.in-Natural.is) c.solve_mut.ensures.solved

pub returns-in-Ordered-clause-solved : goal.returns-in-Ordered-clause-solved
returns-in-Ordered-clause-solved c =
    let solved = c.solve_mut-in-Ordered in
    subst (λ (s : HeldFactors). OnOk solved.result (IsSolution ring64 (product_in s)
    (plain_of_dense ring64 w64_value solved.new.b)
    (plain_of_dense ring64 w64_value c.args.b.now))) (sym c.in-Ordered.is) solved.ensures.solved
