use Rattle.std.proofs.lemmas.Grind.{elements}
use Rattle.std.proofs.Common.{◌-◌, subst, sym, get_or, arith}
use Rattle.std.proofs.lemmas.Slice.Zip.{AllZip-long}
use Rattle.sparse_coo_dense.specs.CooPlain.{plain_of_coo}
use Rattle.sparse_expr.specs.InnerSources.{Provides}
use Rattle.sparse_expr.proofs.Values.{input_met}
use Rattle.sparse_expr.proofs.Joined.{AllZip-get, AllZip-set, index-below}
use Rattle.sparse_expr.proofs.sources.input.Goals as goal

pub bounds-sources-number : goal.bounds-sources-number
bounds-sources-number g c =
    rw (AllZip-long _ _ _ c.requires.provides)
    (index-below _ _ c.if-number-eq0.false c.if-number-inputs.false)

pub matrix_of-requires : goal.matrix_of-requires
matrix_of-requires g c =
    let R = g.T.Ring.ring in
    let f = g.T.Ring.value in
    record {
      provides = subst (λ list. Provides R f list
          (get_or c.args.sources.now (c.args.number - 1) c.index-sources-number.result))
          (sym c.index-inputs-number.is)
          (AllZip-get (Provides R f) c.args.inputs.now c.args.sources.now (c.args.number - 1)
          c.index-inputs-number.result c.index-sources-number.result
          (index-below _ _ c.if-number-eq0.false c.if-number-inputs.false) c.requires.provides);
    }

pub returns-clause-met : goal.returns-clause-met
returns-clause-met g c =
    let R = g.T.Ring.ring in
    input_met R (λ m. plain_of_coo R g.T.Ring.value m) c.args.inputs.now c.args.number
    c.index-inputs-number.result _ c.if-number-eq0.false c.if-number-inputs.false
    c.index-inputs-number.is c.in_ok-matrix_of.ensures.is

pub returns-clause-provides : goal.returns-clause-provides
returns-clause-provides g c =
    let R = g.T.Ring.ring in
    let f = g.T.Ring.value in
    AllZip-set (Provides R f) c.args.inputs.now c.args.sources.now (c.args.number - 1)
    c.index-inputs-number.result _ (index-below _ _ c.if-number-eq0.false
    c.if-number-inputs.false) c.requires.provides
    (subst (λ list. Provides R f list c.matrix_of.new.source) c.index-inputs-number.is
    c.in_ok-matrix_of.ensures.provides)

-- ---- written by tools/answer-goals

pub returns-then-number-eq0-clause-met : goal.returns-then-number-eq0-clause-met
returns-then-number-eq0-clause-met g c = grind (arith, elements)
