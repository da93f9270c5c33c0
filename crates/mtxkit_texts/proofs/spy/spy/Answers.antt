use Rattle.mtxkit_texts.proofs.spy.spy.Goals as goal

pub returns-clause-picture : goal.returns-clause-picture
returns-clause-picture c = record {
  entries = c.in_ok-loaded.loaded.entries;
  matrix = c.in_ok-loaded.loaded.matrix;
  meant = c.in_ok-loaded.ensures.meant;
  drawn = rw (← c.pattern.ensures.pattern) c.in_ok-drawn.ensures;
}
