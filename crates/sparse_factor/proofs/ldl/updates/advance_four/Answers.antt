use Rattle.std.proofs.Common.{ap, ◌∙◌, slice_index, ◌+◌}
use Rattle.sparse_factor.specs.InnerNested.{moved}
use Rattle.sparse_factor.proofs.MovedCursors.{second_behind, third_behind, fourth_behind}
use Rattle.sparse_factor.proofs.ldl.updates.advance_four.Goals as goal

pub advance-q-requires-clause-fits : goal.advance-q-requires-clause-fits
advance-q-requires-clause-fits c =
    rw (c.advance-p.ensures.moved, second_behind c.args.cursors.now c.args.k) c.requires.fits_1

pub advance-r-requires-clause-fits : goal.advance-r-requires-clause-fits
advance-r-requires-clause-fits c = rw (
  c.advance-q.ensures.moved,
  c.advance-p.ensures.moved,
  third_behind c.args.cursors.now c.args.k,
) c.requires.fits_2

pub advance-s-requires-clause-fits : goal.advance-s-requires-clause-fits
advance-s-requires-clause-fits c = rw (
  c.advance-r.ensures.moved,
  c.advance-q.ensures.moved,
  c.advance-p.ensures.moved,
  fourth_behind c.args.cursors.now c.args.k,
) c.requires.fits_3

pub returns-clause-second : goal.returns-clause-second
returns-clause-second c =
    c.advance-q.ensures.cursor ∙ ap (λ l. slice_index l (c.args.k + 1)) c.advance-p.ensures.moved
    ∙ second_behind c.args.cursors.now c.args.k

pub returns-clause-third : goal.returns-clause-third
returns-clause-third c =
    c.advance-r.ensures.cursor ∙ ap (λ l. slice_index l (c.args.k + 2)) (c.advance-q.ensures.moved
    ∙ ap (λ l. moved l (c.args.k + 1)) c.advance-p.ensures.moved)
    ∙ third_behind c.args.cursors.now c.args.k

pub returns-clause-fourth : goal.returns-clause-fourth
returns-clause-fourth c =
    c.advance-s.ensures.cursor ∙ ap (λ l. slice_index l (c.args.k + 3)) (c.advance-r.ensures.moved
    ∙ ap (λ l. moved l (c.args.k + 2)) (c.advance-q.ensures.moved
    ∙ ap (λ l. moved l (c.args.k + 1)) c.advance-p.ensures.moved))
    ∙ fourth_behind c.args.cursors.now c.args.k
