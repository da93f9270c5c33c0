use Rattle.std.proofs.Common.{ap, sym, ◌∙◌}
use Rattle.sparse_factor.proofs.SolvedFactors.{solved}
use Rattle.sparse_factor.proofs.ldl.Ldl.solve_mut.Goals as goal

pub returns-clause-solved : goal.returns-clause-solved
returns-clause-solved g c =
    let first = c.spsolve_csc_lower_triangular in
    let second = c.spsolve_csc_lower_triangular-2 in
    let scaled = rw c.deref.ensures.value at c.scale_rows.ensures in
    let rows = c.requires ∙ ap (λ s. s.l.pattern.minor_dim) (sym c.self.view_is) in
    rw (← c.self.view_is) (solved c.self.invariant.0 c.values.ensures.sound first.result
    second.result second.new.b c.args.b.now g.met.T.Ring.zero_law c.self.invariant.1 rows
    first.ensures.rows (second.ensures.cols ∙ scaled.cols ∙ first.ensures.cols) scaled
    first.ensures.solved second.ensures.solved (λ e. (first.ensures.singular.0 e).1)
    (λ e. (second.ensures.singular.0 e).1))
