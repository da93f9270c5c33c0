use Rattle.std.proofs.Common.{◌∙◌}
use Rattle.sparse_coo_dense.specs.CooEquality.{coo_eq-equiv}
use Rattle.sparse_laws.proofs.data.coo_returns.Goals as goal

pub returns-clause-equal : goal.returns-clause-equal
returns-clause-equal g c =
    rw (c.in-Ok.ensures.ok ∙ c.in_ok-to_data.ensures.is)
    ((coo_eq-equiv g.met.T.Eq.laws).refl c.args.matrix.now)
