use Rattle.mtxkit_commands.proofs.Reports.{tells_after}
use Rattle.mtxkit_commands.proofs.arguments.run_flushed.Goals as goal

pub returns-in-0-clause-tells : goal.returns-in-0-clause-tells
returns-in-0-clause-tells g c =
    tells_after _ _ _ _ _ _ c.finish.result (c.run_words.ensures.tells.silent c.in-0.is)
    c.finish.ensures.tells

pub returns-in-0-clause-answered : goal.returns-in-0-clause-answered
returns-in-0-clause-answered g c = λ done. (
  g.W.Write.contents c.run_words.new.out.inner,
  c.run_words.ensures.answered c.in-0.is,
  c.finish.ensures.kept,
)
