use Rattle.mtx_commands.proofs.Begun.{OnErr-always, begun_run}
use Rattle.mtx_commands.proofs.evaluate.write_value.Goals as goal

pub returns-in_err-run_owned-clause-begun : goal.returns-in_err-run_owned-clause-begun
returns-in_err-run_owned-clause-begun g c = OnErr-always c.from_residual.result
    (begun_run _ _ _ _ _ _ _ _ _ c.in_err-run_owned.ensures.refused)
