use Rattle.sparse_factor.specs.declared.factorization.Triangle.TheVariants.{Upper}
use Rattle.sparse_factor.proofs.FactorLaws.{stores_fill, stores_fill_paths, stores_diagonal}
use Rattle.sparse_factor.proofs.FactorLaws.{triangle_low}
use Rattle.sparse_factor.proofs.factorization.CscSymbolicCholesky.factor_counted.Goals as goal

pub returns-clause-fill : goal.returns-clause-fill
returns-clause-fill c =
    let l = c.in_ok-l_pattern.ensures in
    stores_fill l.entries l.valid

pub returns-clause-fill_paths : goal.returns-clause-fill_paths
returns-clause-fill_paths c =
    stores_fill_paths (triangle_low Upper c.args.pattern) c.in_ok-l_pattern.ensures.entries

pub returns-clause-diagonal : goal.returns-clause-diagonal
returns-clause-diagonal c =
    stores_diagonal (triangle_low Upper c.args.pattern) c.in_ok-l_pattern.ensures.entries
