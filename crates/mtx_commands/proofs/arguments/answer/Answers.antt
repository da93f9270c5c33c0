use Rattle.mtx_commands.proofs.arguments.answer.Goals as goal

pub returns-clause-usage : goal.returns-clause-usage
returns-clause-usage g c = rw c.exit_code.ensures c.run_args.ensures.usage
