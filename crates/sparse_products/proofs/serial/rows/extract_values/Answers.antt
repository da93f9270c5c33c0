use Rattle.std.proofs.Common.{◌≡◌, ◌<◌, ℕ, ◌∷◌, [], ◌++◌, length, map, get_or, ap, sym, ◌∙◌, arith}
use Rattle.std.proofs.Common.{append_assoc, take}
use Rattle.std.proofs.lemmas.List.{get_or_default, map-append, take_more}
use Rattle.sparse_products.proofs.ExtractedRows.{extracted_more, not_before}
use Rattle.sparse_products.proofs.serial.rows.extract_values.Goals as goal

pub loop-j-preserved : goal.loop-j-preserved
loop-j-preserved g c =
    let z = g.T.Zero.zero_value in
    let js = c.args.indices.now in
    let start = c.args.row.now in
    let row = c.loop-j.row in
    let p = c.loop-j.j-index in
    let lt = c.loop-j-test.true in
    let inv = c.loop-j.invariant in
    let j = get_or js p 0 in
    let v = c.index-row-j.result in
    let own = λ (j : ℕ). get_or start j z in
    let within : j < length row = omega (arith, c.requires.inside p 0 lt, c.loop-j.auto.row) in
    let read : v ≡ own j = c.index-row-j.is ∙ get_or_default row j v z within
    ∙ inv.extracted.kept j (not_before js p c.requires.rising lt) in
    rw c.zero.ensures record {
      room = omega (
        arith,
        inv.room,
        c.push_reserved.ensures.len,
        c.push_reserved.ensures.capacity,
      );
      extracted = extracted_more js p lt within inv.extracted;
      pushed = c.push_reserved.ensures.items ∙ ap (λ xs. xs ++ v ∷ []) inv.pushed
          ∙ append_assoc c.args.values.now.items (map own (take p js)) (v ∷ [])
          ∙ ap (λ xs. c.args.values.now.items ++ xs)
          (ap (λ x. map own (take p js) ++ x ∷ []) read
          ∙ sym (map-append own (take p js) (j ∷ [])) ∙ ap (map own) (sym (take_more js p 0 lt)));
    }
