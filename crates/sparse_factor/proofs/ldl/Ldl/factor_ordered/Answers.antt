use Rattle.std.proofs.Common.{ap, sym, ◌∙◌}
use Rattle.std.proofs.lemmas.Result.{IfErr-weaker}
use Rattle.sparse_pattern.specs.Raw.{Raw}
use Rattle.sparse_factor.proofs.ldl.Ldl.factor_ordered.Goals as goal

pub returns-clause-singular : goal.returns-clause-singular
returns-clause-singular g c =
    let count = c.in_ok-permutation.ensures ∙ ap (λ (d : Raw). d.major_dim) c.pattern.ensures.pattern
    ∙ sym c.requires.square in
    IfErr-weaker c.factor_given.result _ _
    (λ e none is. (c.in_ok-permutation.permutation, c.order.ensures.valid, count, none is))
    c.factor_given.ensures.singular
