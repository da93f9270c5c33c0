use Rattle.sparse_products.proofs.Updating.{covered_is}
use Rattle.sparse_products.proofs.serial.update.update_covered.Goals as goal

pub search_rows-requires-clause-contained : goal.search_rows-requires-clause-contained
search_rows-requires-clause-contained g c =
    (covered_is g.T.Ring.ring g.T.Ring.value c.requires.sizes c.values.ensures.sound
    c.pattern.ensures.sound c.major_offsets.ensures.valid).1 c.requires.covered

pub scatter_rows-requires-clause-contained : goal.scatter_rows-requires-clause-contained
scatter_rows-requires-clause-contained g c =
    (covered_is g.T.Ring.ring g.T.Ring.value c.requires.sizes c.values.ensures.sound
    c.pattern.ensures.sound c.major_offsets.ensures.valid).1 c.requires.covered
