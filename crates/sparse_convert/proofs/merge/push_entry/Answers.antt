use Rattle.std.proofs.Common.{◌≡◌, ◌≢◌, ◌-◌, ◌<◌, ◌≤◌, ℕ, length, slice_index, ap, sym, ◌∙◌, arith}
use Rattle.std.proofs.lemmas.List.{get_or_read}
use Rattle.sparse_convert.proofs.Merging.{entry_added, entry_pushed}
use Rattle.sparse_convert.proofs.merge.push_entry.Goals as goal
use Rattle.sparse_convert.proofs.merge.push_entry.Goals.{else-start-end}
use Rattle.sparse_convert.proofs.merge.push_entry.Goals.{then-start-end+else-index-last+else-index-last-2}

pub returns-then-index-last-2-clause-merged : goal.returns-then-index-last-2-clause-merged
returns-then-index-last-2-clause-merged g c = λ lane m.
    let f = g.T.Ring.value in
    let is = c.args.indices.now.items in
    let vs = c.args.values.now.items in
    let q = c.len-end.result - 1 in
    let sizes : length vs ≡ length is = omega (arith, c.requires.sizes) in
    let last : slice_index is q ≡ c.args.index =
    sym (get_or_read is _ _ (omega arith) c.index-last.ensures 0) ∙ sym c.if-index-last-2.true in
    entry_added (c.args.index, c.args.value) sizes m q c.add.result (omega arith) (omega arith) last
    (c.add.ensures ∙ ap (λ x. g.T.Ring.ring.add (f x) (f c.args.value))
    (get_or_read vs q _ (omega (arith, sizes)) c.index.ensures g.T.Zero.zero_value))

pub returns-clause-merged : goal.returns-clause-merged
returns-clause-merged g c = λ lane m.
    let is = c.args.indices.now.items in
    let above : c.args.start < length is → slice_index is (length is - 1) < c.args.index =
    elim c.if-start-end.branch [
      | then-start-end+else-index-last+else-index-last-2 w ↦ λ some.
          let place : c.len-end.result - 1 ≡ length is - 1 = omega arith in
          let read = get_or_read is _ _ (omega arith) w.index-last.ensures 0
          ∙ ap (slice_index is) place in
          below _ _ (omega (arith, w.if-index-last.false, read))
          (λ same. w.if-index-last-2.false (sym same ∙ sym read))
      | else-start-end w ↦ λ some. absurd (omega (arith, w.if-start-end.false))
    ] in
    rw (c.push_reserved.ensures.items, c.push_reserved-2.ensures.items)
    (entry_pushed (c.args.index, c.args.value) (omega (arith, c.requires.sizes)) m (omega arith)
    above)
  where
    below : (a b : ℕ) → a ≤ b → a ≢ b → a < b
    below a b h g = grind arith
