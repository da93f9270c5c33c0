use Rattle.std.proofs.Common.{ap, sym, ◌∙◌}
use Rattle.sparse_algebra.specs.Plain.{Plain}
use Rattle.mtxkit_texts.specs.Loaded.{ring64}
use Rattle.mtxkit_texts.proofs.places.pattern_of.Goals as goal

pub returns : goal.returns
returns c =
    let summed = c.in_ok-convert_coo_csr in
    let plain = summed.ensures.plain in
    let have = c.stands_law.ensures.rows summed.field-0 summed.ensures.sound in
    rw c.into_pattern_and_values-pattern.ensures.pattern (record {
      rows = ap (λ (p : Plain ring64). p.rows) plain ∙ c.in_ok-listed.ensures.rows;
      cols = ap (λ (p : Plain ring64). p.cols) plain ∙ c.in_ok-listed.ensures.cols;
      entries = λ i j.
          let place = have.places i j in
          let has = ap (λ (p : Plain ring64). p.has i j) plain ∙ c.in_ok-listed.ensures.entries i j in
          (λ p. sym has ∙ place.0 p, λ e. place.1 (has ∙ e));
    })
