use Rattle.std.proofs.Common.{sym, ◌∙◌, subst}
use Rattle.std.proofs.lemmas.Result.{err_from_is_err_and}
use Rattle.sparse_algebra.specs.Plain.{Plain}
use Rattle.sparse_factor.specs.Fill.{InFill, PlainBase, StoresByColumns}
use Rattle.sparse_factor.proofs.FilledSets.{plain_fill}
use Rattle.sparse_factor.proofs.PermutedFactors.{no_permuted_factors, only_permuted_factors}
use Rattle.sparse_factor.proofs.PermutedFactors.{ordered_equation, permuted_factors}
use Rattle.sparse_factor.proofs.ordered.factor_whole.Goals as goal

pub returns-clause-equation : goal.returns-clause-equation
returns-clause-equation g c =
    let need = c.requires in
    let matrix = c.in_ok-permuted.ensures in
    let made = c.in_ok-factors.ensures in
    ordered_equation g.T.Ring.ring g.T.Ring.value g.T.Zero.zero_value c.args.permutation
    c.in_ok-inverse.inverse c.args.a
    c.in_ok-permuted.permuted need.symmetric matrix.plain c.in_ok-factors.factors
    (need.length ∙ sym matrix.rows) made.count c.in_ok-inverse.ensures.inverse
    c.in_ok-inverse.ensures.valid made.rows (sym matrix.rows)
    (sym need.square ∙ sym matrix.rows) made.equation

pub returns-clause-factors : goal.returns-clause-factors
returns-clause-factors g c =
    let need = c.requires in
    let matrix = c.in_ok-permuted.ensures in
    let made = c.in_ok-factors.ensures in
    permuted_factors g.T.Ring.ring g.T.Ring.value g.T.Zero.zero_value c.args.permutation
    c.in_ok-inverse.inverse c.args.a
    c.in_ok-permuted.permuted need.symmetric matrix.plain c.in_ok-factors.factors
    (need.length ∙ sym matrix.rows) made.count made.rows made.unit_diagonal made.pivots
    made.equation

pub returns-clause-entries : goal.returns-clause-entries
returns-clause-entries g c =
    let R = g.T.Ring.ring in
    let matrix = c.in_ok-permuted.ensures in
    let l = c.in_ok-factors.factors.l.pattern in
    subst (λ (m : Plain R). StoresByColumns (InFill (PlainBase m)) l) matrix.plain
    (plain_fill R g.T.Ring.value c.in_ok-permuted.permuted matrix.sound l
    c.in_ok-factors.ensures.entries)

pub returns-clause-unique : goal.returns-clause-unique
returns-clause-unique g c =
    let need = c.requires in
    let matrix = c.in_ok-permuted.ensures in
    only_permuted_factors g.T.Ring.ring g.T.Ring.value g.T.Zero.zero_value c.args.permutation
    c.in_ok-inverse.inverse c.args.a
    c.in_ok-permuted.permuted need.symmetric matrix.plain c.in_ok-factors.factors
    (need.length ∙ sym matrix.rows) c.in_ok-factors.ensures.count c.in_ok-factors.ensures.unique

pub returns-in_err-factors-clause-singular : goal.returns-in_err-factors-clause-singular
returns-in_err-factors-clause-singular g c =
    let p = err_from_is_err_and c.from_residual-in_err-factors.result
    c.from_residual-in_err-factors.ensures.1 in
    rw (p.1, p.2) (λ is. no_permuted_factors g.T.Ring.ring g.T.Ring.value g.T.Zero.zero_value
    c.args.permutation c.in_ok-inverse.inverse c.args.a c.in_ok-permuted.permuted
    c.requires.symmetric c.in_ok-permuted.ensures.plain (c.in_err-factors.ensures.singular is))
