use Rattle.std.proofs.Common.{◌≡◌, ◌<◌, inl, inr, length, get_or, set, ap, sym, subst, ◌∙◌, arith}
use Rattle.std.proofs.lemmas.List.{get_or-set_same, get_or-set_other, get_or_default, take_all}
use Rattle.sparse_algebra.proofs.Cases.{lt_add_one_cases}
use Rattle.sparse_products.specs.InnerProducts.{IsExtracted}
use Rattle.sparse_products.proofs.ExtractedRows.{extracted_more, not_before}
use Rattle.sparse_products.proofs.serial.scatter.gather_row.Goals as goal

pub loop-at-preserved : goal.loop-at-preserved
loop-at-preserved g c =
    let R = g.T.Ring.ring in
    let f = g.T.Ring.value in
    let z = g.T.Zero.zero_value in
    let js = c.args.indices.now in
    let at = c.loop-at.at in
    let row = c.loop-at.row in
    let values = c.loop-at.values in
    let inv = c.loop-at.invariant in
    let start = c.args.row.now in
    let j = get_or js at 0 in
    let inside : at < length js = omega arith in
    let j_lt : j < length row = omega (arith, c.requires.inside at 0 inside, c.loop-at.auto.row) in
    let at_lt : at < length values = omega (arith, c.requires.count, c.loop-at.auto.values) in
    let w = c.add.result in
    let w_is : f w ≡ R.add (R.mul (f c.args.beta) (f (get_or c.args.values.now at z)))
    (f (get_or start j z)) =
    let old : c.index-values-at.result ≡ get_or c.args.values.now at z = c.index-values-at.is
    ∙ get_or_default values at c.index-values-at.result z at_lt ∙ inv.others at (omega arith) in
    let read : c.index-row-j.result ≡ get_or start j z = c.index-row-j.is
    ∙ get_or_default row j c.index-row-j.result z j_lt
    ∙ inv.extracted.kept j (not_before js at c.requires.rising inside) in
    c.add.ensures ∙ ap (λ x. R.add x (f c.index-row-j.result))
    (c.mul.ensures ∙ ap (λ x. R.mul (f c.args.beta) (f x)) old)
    ∙ ap (λ x. R.add (R.mul (f c.args.beta) (f (get_or c.args.values.now at z))) (f x)) read in
    rw c.zero.ensures record {
      gathered = λ p lt. elim (lt_add_one_cases p at lt) [
        | inl before ↦ ap f (get_or-set_other values at p w z (omega arith))
            ∙ inv.gathered p before
        | inr here ↦ ap (λ p. f (get_or (set values at w) p z)) here
            ∙ ap f (get_or-set_same values at w z at_lt) ∙ w_is
            ∙ ap (λ p. R.add (R.mul (f c.args.beta) (f (get_or c.args.values.now p z)))
            (f (get_or start (get_or js p 0) z))) (sym here)
      ];
      others = λ p le. get_or-set_other values at p w z (omega arith) ∙ inv.others p (omega arith);
      extracted = extracted_more js at inside j_lt inv.extracted;
      counted = omega (arith, inv.counted, c.tick.ensures);
    }

pub returns : goal.returns
returns g c =
    let js = c.args.indices.now in
    let inv = c.loop-at.invariant in
    let whole : c.loop-at.at ≡ length js = omega arith in
    record {
      gathered = λ k lt. inv.gathered k (omega (arith, whole));
      extracted = subst (λ l. IsExtracted g.T.Zero.zero_value l c.args.row.now c.loop-at.row)
          (take_all c.loop-at.at js (omega (arith, whole))) inv.extracted;
      counted = omega (arith, inv.counted, whole);
    }
