use Rattle.std.proofs.Common.{◌≡◌, ◌+◌, ◌-◌, ◌++◌, [], ◌∷◌, length, take, sym, ap, ◌∙◌, subst}
use Rattle.std.proofs.Common.{vec_len, arith}
use Rattle.std.proofs.lemmas.Bool.{OnTrue_at}
use Rattle.std.proofs.lemmas.List.{take_more}
use Rattle.sparse_convert.specs.InnerMerged.{AreMerged}
use Rattle.sparse_convert.proofs.Merging.{merged_below}
use Rattle.sparse_convert.proofs.merge.merge_lane.Goals as goal

pub loop-index-preserved : goal.loop-index-preserved
loop-index-preserved g c =
    let lane = c.args.lane.now in
    let k = c.loop-index.index-index in
    let e = c.loop-index-item.result in
    let inv = c.loop-index.invariant in
    let put = c.push_entry.ensures in
    let accepted = put.accepted (λ some. merged_below lane k inv.merged c.requires.sorted
    e c.loop-index-test.true c.loop-index-item.is (vec_len c.loop-index.indices - 1)
    (omega arith) (omega arith)) in
    let js = c.push_entry.new.indices.items in
    let more : take k lane ++ e ∷ [] ≡ take (k + 1) lane =
    ap (λ x. take k lane ++ x ∷ []) c.loop-index-item.is
    ∙ sym (take_more lane k e c.loop-index-test.true) in
    record {
      merged = subst (λ l. AreMerged g.T.Ring.ring g.T.Ring.value g.T.Zero.zero_value l js
          c.push_entry.new.values.items c.len-start.result (length js)) more
          (OnTrue_at accepted put.merged (take k lane) inv.merged);
      from = omega (arith, put.longer, inv.from);
      to = omega (arith, put.grown, inv.to);
      sizes = put.sizes;
      keeps_indices = λ p lt. put.kept_indices p lt ∙ inv.keeps_indices p lt;
      keeps_values = λ p lt. put.kept_values p lt ∙ inv.keeps_values p lt;
      index_capacity = put.index_room ∙ inv.index_capacity;
      value_capacity = put.value_room ∙ inv.value_capacity;
    }
