use Rattle.std.proofs.Common.{sym, ◌∙◌}
use Rattle.c_arrays.proofs.Meanings.{place_count-rows}
use Rattle.c_arrays.proofs.writing.write_rows_or_count.Goals as goal

pub returns-then-status-ne0-clause-needed : goal.returns-then-status-ne0-clause-needed
returns-then-status-ne0-clause-needed g c = λ _. c.nnz.ensures.count
    ∙ sym (place_count-rows g.T.Ring.ring g.T.Ring.value c.args.matrix.now c.nnz.ensures.sound)
