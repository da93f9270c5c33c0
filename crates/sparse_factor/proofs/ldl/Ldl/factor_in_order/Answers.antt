use Rattle.sparse_factor.proofs.ldl.Ldl.factor_in_order.Goals as goal

pub returns-in-Err-clause-singular : goal.returns-in-Err-clause-singular
returns-in-Err-clause-singular g c = λ is.
    c.in-Err.ensures.singular (c.of_factors.ensures.singular.0 is)
