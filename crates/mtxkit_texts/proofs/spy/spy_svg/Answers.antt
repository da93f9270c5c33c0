use Rattle.mtxkit_texts.proofs.spy.spy_svg.Goals as goal

pub returns-clause-shown : goal.returns-clause-shown
returns-clause-shown c = (
  c.in_ok-picture.picture,
  record {
    entries = c.in_ok-loaded.loaded.entries;
    matrix = c.in_ok-loaded.loaded.matrix;
    meant = c.in_ok-loaded.ensures.meant;
    drawn = rw (← c.pattern-pattern.ensures.pattern) c.in_ok-picture.ensures;
  },
  rw (← c.pattern-pattern.ensures.pattern) c.in_ok-svg_text.ensures,
)
