use Rattle.std.proofs.Common.{◌<◌, ℕ, sym, refl, arith}
use Rattle.sparse_algebra.specs.Operands.{inner_of}
use Rattle.sparse_coo_dense.specs.DensePlain.{plain_of_dense}
use Rattle.sparse_compressed.specs.PlainOfLanes.{plain_of_cols}
use Rattle.sparse_dense_ops.specs.Solutions.{plain_lower}
use Rattle.sparse_dense_ops.proofs.PlainSolutions.{op_solution}
use Rattle.sparse_compressed.proofs.Arrays.{proper_rows}
use Rattle.sparse_dense_ops.proofs.UniqueSolutions.{pivot_of_lower, lower_has_pivot}
use Rattle.sparse_dense_ops.proofs.UniqueSolutions.{op_one_solution}
use Rattle.sparse_dense_ops.proofs.solve.triangular.spsolve_csc_lower_triangular.Goals as goal

pub returns-then-not-can_solve-clause-singular : goal.returns-then-not-can_solve-clause-singular
returns-then-not-can_solve-clause-singular g c =
    let R = g.T.Ring.ring in
    let f = g.T.Ring.value in
    let a = plain_of_cols R f (inner_of c.args.l).now in
    let proper = λ (i j : ℕ). proper_rows R f (inner_of c.args.l).now j i in
    let singular = rw (c.into_inner-t.ensures, c.ncols-ncols.ensures) at
    c.if-not-can_solve.ensures.cases in (
      λ _. (
        singular.0,
        (
          singular.1.0,
          singular.1.1,
          λ pivot. singular.1.2 (pivot_of_lower R f a proper singular.1.0 pivot),
        ),
      ),
      λ _. refl,
    )

pub returns-then-not-can_solve-clause-unchanged :
    goal.returns-then-not-can_solve-clause-unchanged
returns-then-not-can_solve-clause-unchanged g c = refl

pub solve_columns-requires-clause-pivots : goal.solve_columns-requires-clause-pivots
solve_columns-requires-clause-pivots g c = rw (c.into_inner-t.ensures, c.ncols-ncols.ensures) at
    c.if-not-can_solve.ensures.cases

pub returns-clause-solved : goal.returns-clause-solved
returns-clause-solved g c =
    let sound =
    rw (c.into_inner-t.ensures, c.ncols-ncols.ensures) at c.if-not-can_solve.ensures.sound in
    op_solution g.T.Ring.ring g.T.Ring.value g.T.Zero.zero_value g.met.T.Ring.zero_law (λ m. m.now)
    c.args.l c.solve_columns.new.b c.args.b.now c.requires.square c.requires.rows sound
    c.solve_columns.ensures

pub returns-clause-singular : goal.returns-clause-singular
returns-clause-singular g c =
    let R = g.T.Ring.ring in
    let f = g.T.Ring.value in
    let a = plain_of_cols R f (inner_of c.args.l).now in
    let proper = λ (i j : ℕ). proper_rows R f (inner_of c.args.l).now j i in
    let pivots =
    rw (c.into_inner-t.ensures, c.ncols-ncols.ensures) at c.if-not-can_solve.ensures.cases in (
      λ ok. cc,
      λ refused. absurd
          (refused.1.2 (lower_has_pivot R f a proper refused.1.0
          (pivots refused.0 refused.1.0 refused.1.1))),
    )

pub returns-clause-above : goal.returns-clause-above
returns-clause-above g c = λ m x same solves i j row col.
    let R = g.T.Ring.ring in
    let f = g.T.Ring.value in
    let l = (inner_of c.args.l).now in
    let b = c.args.b.now in
    let pivots =
    rw (c.into_inner-t.ensures, c.ncols-ncols.ensures) at c.if-not-can_solve.ensures.cases in
    let some : 0 < b.ncols = omega arith in
    op_one_solution R (λ m. plain_of_cols R f m.now) c.args.l (plain_lower R (plain_of_cols R f m))
    x (plain_of_dense R f c.solve_columns.new.b) (plain_of_dense R f b) b.ncols
    (λ i j. proper_rows R f l j i) (sym c.requires.square)
    (λ k lt. let pivot = pivots some k lt in (f pivot.1.0, pivot.1.1)) same solves
    (returns-clause-solved g c)
    i j (omega (arith, row, c.requires.rows, c.requires.square)) col
