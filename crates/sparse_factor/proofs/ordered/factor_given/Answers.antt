use Rattle.std.proofs.Common.{sym, length, subst}
use Rattle.std.specs.Prelude.{IfOk}
use Rattle.std.proofs.lemmas.Result.{IfErr-weaker}
use Rattle.sparse_algebra.specs.Plain.{Plain}
use Rattle.sparse_compressed.specs.PlainOfLanes.{plain_of_cols}
use Rattle.sparse_dense_ops.specs.Solutions.{HasSameValues}
use Rattle.sparse_permutation.specs.PermutedPlain.{plain_permuted, IsSymmetric}
use Rattle.sparse_factor.specs.Factorisations.{IsFactorisation}
use Rattle.sparse_factor.specs.OrderedFactors.{plain_of_ordered, AreFactorsOfPermuted}
use Rattle.sparse_factor.specs.OrderedFactors.{AreOnlyFactorsOfPermuted, StoresFillOfPermuted}
use Rattle.sparse_factor.proofs.SymmetricMatrices.{is_symmetric}
use Rattle.sparse_factor.proofs.ordered.factor_given.Goals as goal

pub factor_whole-requires-clause-symmetric : goal.factor_whole-requires-clause-symmetric
factor_whole-requires-clause-symmetric g c =
    let R = g.T.Ring.ring in
    subst (λ (m : Plain R). IsSymmetric R m) (sym c.in_ok-whole.ensures.plain)
    (is_symmetric R (plain_of_cols R g.T.Ring.value c.args.a.now) c.requires.square)

pub returns-clause-equation : goal.returns-clause-equation
returns-clause-equation g c =
    let R = g.T.Ring.ring in
    subst (λ (m : Plain R). IfOk c.factor_whole.result (λ s. HasSameValues R (length s.order)
    (length s.order) (plain_of_ordered R g.T.Ring.value g.T.Zero.zero_value s) m))
    c.in_ok-whole.ensures.plain c.factor_whole.ensures.equation

pub returns-clause-entries : goal.returns-clause-entries
returns-clause-entries g c =
    let R = g.T.Ring.ring in
    subst (λ (m : Plain R). IfOk c.factor_whole.result (StoresFillOfPermuted R m))
    c.in_ok-whole.ensures.plain c.factor_whole.ensures.entries

pub returns-clause-factors : goal.returns-clause-factors
returns-clause-factors g c =
    let R = g.T.Ring.ring in
    subst (λ (m : Plain R). IfOk c.factor_whole.result
    (AreFactorsOfPermuted R g.T.Ring.value g.T.Zero.zero_value m))
    c.in_ok-whole.ensures.plain c.factor_whole.ensures.factors

pub returns-clause-unique : goal.returns-clause-unique
returns-clause-unique g c =
    let R = g.T.Ring.ring in
    subst (λ (m : Plain R). IfOk c.factor_whole.result
    (AreOnlyFactorsOfPermuted R g.T.Ring.value g.T.Zero.zero_value m))
    c.in_ok-whole.ensures.plain c.factor_whole.ensures.unique

pub returns-clause-singular : goal.returns-clause-singular
returns-clause-singular g c =
    let R = g.T.Ring.ring in
    let f = g.T.Ring.value in
    IfErr-weaker c.factor_whole.result _ _
    (λ e none is l d h. none is l d (subst
    (λ (m : Plain R). IsFactorisation R f (plain_permuted R c.args.permutation m) l d)
    (sym c.in_ok-whole.ensures.plain) h)) c.factor_whole.ensures.singular
