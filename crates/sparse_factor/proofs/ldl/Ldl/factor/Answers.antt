use Rattle.std.proofs.Common.{ap, ◌∙◌, arith}
use Rattle.std.proofs.lemmas.Result.{IfOk-from_err, err_from_is_err_and}
use Rattle.sparse_factor.proofs.UniqueFactors.{only_factors, factors_same, no_factors_same}
use Rattle.sparse_factor.proofs.ldl.Ldl.factor.Goals as goal

pub factor_on_fill-requires-clause-fill : goal.factor_on_fill-requires-clause-fill
factor_on_fill-requires-clause-fill g c =
    rw (c.into_l_pattern.ensures, ← c.pattern.ensures.pattern, ← c.in_ok-clone.ensures)
    c.in_ok-symbolic.ensures.fill

pub returns-clause-count : goal.returns-clause-count
returns-clause-count g c = c.in_ok-l.ensures.count
    ∙ ap (λ p. p.minor_dim) c.into_l_pattern.ensures ∙ c.in_ok-symbolic.ensures.rows
    ∙ ap (λ p. p.minor_dim) (c.in_ok-clone.ensures ∙ c.pattern.ensures.pattern)

pub returns-clause-entries : goal.returns-clause-entries
returns-clause-entries g c = rw (
  c.in_ok-l.ensures.pattern,
  c.into_l_pattern.ensures,
  ← c.pattern.ensures.pattern,
  ← c.in_ok-clone.ensures,
) c.in_ok-symbolic.ensures.fill

pub returns-clause-pivots : goal.returns-clause-pivots
returns-clause-pivots g c = λ j lt.
    c.in_ok-l.ensures.factors.pivots j (omega (arith, lt, returns-clause-count g c))

pub returns-clause-equation : goal.returns-clause-equation
returns-clause-equation g c = λ i j row col.
    let size = returns-clause-count g c in
    c.in_ok-l.ensures.factors.equation i j (omega (arith, row, size)) (omega (arith, col, size))

pub returns-clause-unique : goal.returns-clause-unique
returns-clause-unique g c =
    only_factors g.T.Ring.ring g.T.Ring.value g.T.Zero.zero_value c.args.a.now c.in_ok-l.l
    c.in_ok-l.d.items c.in_ok-l.ensures.factors (returns-clause-count g c)

pub returns-clause-upper_only : goal.returns-clause-upper_only
returns-clause-upper_only g c = λ b sound same. (
  factors_same g.T.Ring.ring g.T.Ring.value g.T.Zero.zero_value c.args.a.now c.in_ok-l.l
      c.in_ok-l.d.items c.in_ok-l.ensures.factors b c.pattern.ensures.sound sound same
      (returns-clause-entries g c),
  tt,
)

pub returns-in_err-l-clause-singular : goal.returns-in_err-l-clause-singular
returns-in_err-l-clause-singular g c =
    let p = err_from_is_err_and c.from_residual-in_err-l.result
    c.from_residual-in_err-l.ensures.1 in
    rw (p.1, p.2) c.in_err-l.ensures.singular

pub returns-in_err-l-clause-upper_only : goal.returns-in_err-l-clause-upper_only
returns-in_err-l-clause-upper_only g c = λ b sound same.
    let p = err_from_is_err_and c.from_residual-in_err-l.result
    c.from_residual-in_err-l.ensures.1 in (
      IfOk-from_err _ _ c.from_residual-in_err-l.ensures.0,
      rw (p.1, p.2) (λ is. no_factors_same g.T.Ring.ring g.T.Ring.value c.args.a.now b
          c.pattern.ensures.sound sound same (c.in_err-l.ensures.singular is)),
    )
