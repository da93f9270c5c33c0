use Rattle.mtx_commands.proofs.Begun.{begun_pattern}
use Rattle.mtx_commands.proofs.fill.write_pattern.Goals as goal

pub returns-clause-begun : goal.returns-clause-begun
returns-clause-begun g c =
    begun_pattern _ c.in_ok-matrix.matrix _ _ c.in_ok-matrix.ensures c.in-Err.ensures.prefix
