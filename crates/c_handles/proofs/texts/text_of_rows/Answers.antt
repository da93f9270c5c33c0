use Rattle.std.proofs.Common.{◌∙◌}
use Rattle.c_handles.proofs.PlainTexts.{text-rows}
use Rattle.c_handles.proofs.texts.text_of_rows.Goals as goal

pub returns : goal.returns
returns c = c.in_ok-save_to_matrix_market_str_with.ensures ∙ text-rows c.args.a.now c.values.ensures.sound
