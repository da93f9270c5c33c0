use Rattle.std.proofs.Common.{◌∙◌}
use Rattle.sparse_compressed.specs.Laws.{compressed_eq-equiv}
use Rattle.sparse_laws.proofs.data.csr_returns.Goals as goal

pub returns-clause-equal : goal.returns-clause-equal
returns-clause-equal g c =
    rw (c.in-Ok.ensures.ok ∙ c.in_ok-to_data.ensures.is)
    ((compressed_eq-equiv g.met.T.Eq.laws).refl c.args.matrix.now)
