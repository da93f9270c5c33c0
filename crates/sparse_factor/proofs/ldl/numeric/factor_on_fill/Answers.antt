use Rattle.std.proofs.Common.{ap, sym, ◌∙◌}
use Rattle.std.proofs.lemmas.Result.{IfErr-weaker}
use Rattle.sparse_compressed.specs.PlainOfLanes.{plain_of_cols}
use Rattle.sparse_dense_ops.specs.SparseVectors.{elements}
use Rattle.sparse_factor.proofs.FactorsOfFill.{factors_of_part, part_of_factors}
use Rattle.sparse_factor.proofs.FillPatterns.{fill_pattern, lower_included}
use Rattle.sparse_factor.proofs.Results.{ok_both}
use Rattle.sparse_factor.proofs.ldl.numeric.factor_on_fill.Goals as goal

pub factor_lower-requires-clause-filled : goal.factor_lower-requires-clause-filled
factor_lower-requires-clause-filled g c =
    let need = c.requires in
    rw c.in_ok-l.ensures.pattern (fill_pattern c.args.a.now.pattern c.args.pattern need.fill
    (need.rows ∙ need.square ∙ sym need.columns))

pub factor_lower-requires-clause-included : goal.factor_lower-requires-clause-included
factor_lower-requires-clause-included g c =
    let need = c.requires in
    let lower = c.in_ok-lower.ensures in
    rw c.in_ok-l.ensures.pattern (lower_included c.args.a.now.pattern c.args.pattern
    c.in_ok-lower.lower.pattern need.fill (lower.rows ∙ sym need.square ∙ sym need.rows)
    (lower.columns ∙ need.square ∙ sym need.columns) lower.entries)

pub returns-clause-factors : goal.returns-clause-factors
returns-clause-factors g c =
    let R = g.T.Ring.ring in
    let f = g.T.Ring.value in
    let need = c.requires in
    let is = c.in_ok-l.ensures.pattern in
    ok_both _ _ _ c.factor_lower.result
    (λ r same part.
    let rows = ap (λ p. p.minor_dim) (same ∙ is) ∙ need.rows in
    let columns = ap (λ p. p.major_dim) (same ∙ is) ∙ need.columns ∙ sym need.square in
    factors_of_part R f c.args.a.now c.in_ok-lower.lower c.in_ok-lower.ensures.plain
    (plain_of_cols R f r.0) (elements R f g.T.Zero.zero_value r.1.items)
    (ap (λ p. p.major_dim) is ∙ need.columns ∙ sym need.square) rows (columns ∙ sym rows) part)
    c.factor_lower.ensures.pattern c.factor_lower.ensures.factors

pub returns-clause-singular : goal.returns-clause-singular
returns-clause-singular g c =
    let need = c.requires in
    IfErr-weaker c.factor_lower.result _ _
    (λ e none is l d h. none is l.value d (part_of_factors g.T.Ring.ring g.T.Ring.value
    c.args.a.now c.in_ok-lower.lower c.in_ok-lower.ensures.plain l d
    (ap (λ p. p.major_dim) c.in_ok-l.ensures.pattern ∙ need.columns ∙ sym need.square) h))
    c.factor_lower.ensures.singular
