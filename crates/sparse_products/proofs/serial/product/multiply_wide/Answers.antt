use Rattle.std.proofs.lemmas.Grind.{common_steps}
use Rattle.std.proofs.Common.{◌≡◌, length, ap, sym, ◌∙◌, arith}
use Rattle.std.proofs.lemmas.List.{take_at}
use Rattle.sparse_pattern.specs.Raw.{Raw}
use Rattle.sparse_compressed.specs.Compressed.{IsSound, compressed_of}
use Rattle.sparse_compressed.specs.PlainOfLanes.{plain_of_rows}
use Rattle.sparse_products.specs.InnerUpdates.{CanUpdate}
use Rattle.sparse_products.specs.Products.{IsProductOf}
use Rattle.sparse_products.proofs.ZeroUpdates.{contains_product, update_with_zero_beta}
use Rattle.sparse_products.proofs.Updating.{covered_is}
use Rattle.sparse_products.proofs.serial.product.multiply_wide.Goals as goal

pub update_covered-requires : goal.update_covered-requires
update_covered-requires g c =
    let x = c.args.matrices in
    let d = c.in_ok-pattern.pattern in
    let places : IsProductOf d x.a.now.pattern x.b.now.pattern =
    rw (c.pattern.ensures.pattern, c.pattern-2.ensures.pattern) at
    c.in_ok-pattern.ensures.entries in
    let sizes : CanUpdate x d c.deref_mut.result.now = record {
      inner = c.requires;
      lanes = sym (c.in_ok-pattern.ensures.major
          ∙ ap (λ (d : Raw). d.major_dim) c.pattern.ensures.pattern);
      count = omega (arith, c.deref_mut.ensures.len, c.in_ok-resize.ensures.len, c.nnz.ensures);
    } in
    record {
      sizes = sizes;
      width = sym (c.in_ok-pattern.ensures.minor
          ∙ ap (λ (d : Raw). d.minor_dim) c.pattern-2.ensures.pattern);
      covered = (covered_is g.T.Ring.ring g.T.Ring.value sizes c.pattern.ensures.sound
          c.pattern-2.ensures.sound c.in_ok-pattern.ensures.valid).0
          (contains_product d x.a.now.pattern x.b.now.pattern places);
    }

pub returns : goal.returns
returns g c =
    let R = g.T.Ring.ring in
    let f = g.T.Ring.value in
    let x = c.args.matrices in
    let d = c.in_ok-pattern.pattern in
    let places : IsProductOf d x.a.now.pattern x.b.now.pattern =
    rw (c.pattern.ensures.pattern, c.pattern-2.ensures.pattern) at
    c.in_ok-pattern.ensures.entries in
    let sound : IsSound (compressed_of d c.deref_mut.result.now) = record {
      valid = c.in_ok-pattern.ensures.valid;
      count = omega (arith, c.deref_mut.ensures.len, c.in_ok-resize.ensures.len, c.nnz.ensures);
    } in
    let long : length c.update_covered.new.values ≡ c.resize.new.self.len =
    c.update_covered.auto.values ∙ c.deref_mut.ensures.len in
    ap (plain_of_rows R f) (c.from_pattern_and_values.ensures.is
    ∙ ap (compressed_of d) (take_at c.update_covered.new.values _ _ long))
    ∙ c.in_ok-update_covered.ensures.updated
    ∙ update_with_zero_beta R f c.pattern.ensures.sound c.pattern-2.ensures.sound c.requires sound
    (c.in_ok-pattern.ensures.major ∙ ap (λ (d : Raw). d.major_dim) c.pattern.ensures.pattern)
    (c.in_ok-pattern.ensures.minor ∙ ap (λ (d : Raw). d.minor_dim) c.pattern-2.ensures.pattern)
    places (f c.zero-2.result) (f c.one.result) (ap f c.zero-2.ensures ∙ g.met.T.Ring.zero_law)
    c.one.ensures

-- ---- written by tools/answer-goals

pub from_pattern_and_values-requires : goal.from_pattern_and_values-requires
from_pattern_and_values-requires g c = grind (arith, common_steps)
