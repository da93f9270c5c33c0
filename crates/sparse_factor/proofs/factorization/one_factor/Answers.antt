use Rattle.sparse_factor.proofs.FactorLaws.{factors_equal}
use Rattle.sparse_factor.proofs.factorization.one_factor.Goals as goal

pub returns : goal.returns
returns c = factors_equal
