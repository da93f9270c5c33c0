use Rattle.std.proofs.Common.{sym, ◌∙◌}
use Rattle.mtxkit_patterns.proofs.permuted.permuted_matrix_text.Goals as goal

pub returns-in-Ok-clause-written : goal.returns-in-Ok-clause-written
returns-in-Ok-clause-written c = record {
  matrix = c.in_ok-matrix.matrix;
  permuted = c.in-Ok.permuted;
  meant = c.in_ok-matrix.ensures.meant;
  square = sym c.nrows.ensures ∙ c.in_ok-fit.ensures.fits.0 ∙ c.ncols.ensures;
  rows = sym c.nrows.ensures ∙ c.in_ok-fit.ensures.fits.1;
  is = c.in-Ok.ensures.plain;
  sound = c.in-Ok.ensures.sound;
  text_is = c.in_ok-save_to_matrix_market_str_with-in-Ok.ensures;
}
