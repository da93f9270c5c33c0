use Rattle.std.proofs.Common.{◌≡◌, ◌<◌, length, replicate, ap, ◌∙◌, arith}
use Rattle.std.proofs.lemmas.List.{get_or-replicate, length-replicate}
use Rattle.sparse_factor.proofs.Results.{err_any}
use Rattle.sparse_factor.proofs.Cursors.{first_cursors}
use Rattle.sparse_factor.proofs.ldl.numeric.factor_lower.Goals as goal

pub factor_columns-requires-clause-cursors : goal.factor_columns-requires-clause-cursors
factor_columns-requires-clause-cursors g c =
    rw (
      c.deref_mut-2.ensures.value,
      c.in_ok-cursors.ensures.items,
      c.col_offsets.ensures.offsets,
    ) (first_cursors c.args.l.pattern c.col_offsets.ensures.sound.valid)

pub factor_columns-requires-clause-empty : goal.factor_columns-requires-clause-empty
factor_columns-requires-clause-empty g c = λ i lt.
    let z = g.T.Zero.zero_value in
    let n = c.ncols-n.result in
    let zeros : c.deref_mut-3.result.now ≡ replicate n z =
    c.deref_mut-3.ensures.value ∙ c.in_ok-d.ensures in
    let within : i < n = omega (arith, lt, ap length zeros, length-replicate n z) in
    rw zeros (ap g.T.Ring.value (get_or-replicate n i z z within) ∙ g.met.T.Ring.zero_law)

pub returns-in_err-factor_columns-clause-singular :
    goal.returns-in_err-factor_columns-clause-singular
returns-in_err-factor_columns-clause-singular g c =
    let n = c.args.l.pattern.major_dim in
    let size : length c.deref_mut-3.result.now ≡ n =
    ap length (c.deref_mut-3.ensures.value ∙ c.in_ok-d.ensures)
    ∙ length-replicate c.ncols-n.result g.T.Zero.zero_value ∙ c.ncols-n.ensures in
    err_any _ c.from_residual-in_err-factor_columns.result
    (λ e _. rw size at c.in_err-factor_columns.ensures.singular)
