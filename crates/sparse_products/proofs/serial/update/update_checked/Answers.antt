use Rattle.std.proofs.Common.{refl}
use Rattle.sparse_products.proofs.Updating.{covered_is}
use Rattle.sparse_products.proofs.serial.update.update_checked.Goals as goal

pub returns-then-not-covers_product-clause-covered :
    goal.returns-then-not-covers_product-clause-covered
returns-then-not-covers_product-clause-covered g c =
    let no = c.if-not-covers_product.true in
    let places = rw (c.pattern.ensures.pattern, c.pattern-2.ensures.pattern)
    at c.covers_product.ensures.1 in
    let same = covered_is g.T.Ring.ring g.T.Ring.value c.requires c.pattern.ensures.sound
    c.pattern-2.ensures.sound c.major_offsets.ensures.valid in
    (λ covered. cc, λ all. let yes = places (same.1 all) in cc)

pub search_rows-requires-clause-contained : goal.search_rows-requires-clause-contained
search_rows-requires-clause-contained g c =
    let places = rw (c.pattern.ensures.pattern, c.pattern-2.ensures.pattern)
    at c.covers_product.ensures.0 in
    places c.if-not-covers_product.false

pub returns-clause-covered : goal.returns-clause-covered
returns-clause-covered g c =
    let places = rw (c.pattern.ensures.pattern, c.pattern-2.ensures.pattern)
    at c.covers_product.ensures.0 in
    let same = covered_is g.T.Ring.ring g.T.Ring.value c.requires c.pattern.ensures.sound
    c.pattern-2.ensures.sound c.major_offsets.ensures.valid in
    (λ covered. same.0 (places c.if-not-covers_product.false), λ all. refl)
