use Rattle.std.proofs.Common.{ap, sym, ◌∙◌, length}
use Rattle.sparse_factor.specs.Factors.{plain_of_factors}
use Rattle.sparse_factor.proofs.OrderedSystems.{solved_back}
use Rattle.sparse_factor.proofs.ordered.OrderedLdl.solve_mut.Goals as goal

pub returns-clause-solved : goal.returns-clause-solved
returns-clause-solved g c =
    let R = g.T.Ring.ring in
    let f = g.T.Ring.value in
    let ordered = c.self.invariant in
    let rows = c.requires ∙ ap (λ s. length s.order) (sym c.self.view_is) in
    let permuted = c.in_ok-permuted.ensures in
    rw (← c.self.view_is) (solved_back R ordered.inverse ordered.back f
    (plain_of_factors R f g.T.Zero.zero_value c.self.inside.factors) c.args.b.now
    c.in_ok-permuted.permuted c.solve_mut.new.b c.in_ok-solution.solution (sym ordered.count)
    (sym ordered.count) rows (c.solve_mut.ensures.rows ∙ permuted.rows ∙ rows) permuted.plain
    c.solve_mut.ensures.solved c.in_ok-solution.ensures.plain)
