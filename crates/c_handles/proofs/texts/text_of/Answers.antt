use Rattle.std.proofs.Common.{ap, ◌∙◌}
use Rattle.c_handles.specs.Texts.{text_of_plain}
use Rattle.c_handles.proofs.Done.{plain_of_rows-held}
use Rattle.c_handles.proofs.texts.text_of.Goals as goal

pub returns-clause-text : goal.returns-clause-text
returns-clause-text c = c.in_ok-text_of_rows.ensures ∙ ap text_of_plain
    (plain_of_rows-held c.args.a.now.value _ _ c.in_ok-a.ensures.value c.deref.ensures)
