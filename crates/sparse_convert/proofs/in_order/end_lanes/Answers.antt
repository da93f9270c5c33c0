use Rattle.std.proofs.Common.{◌≡◌, ◌+◌, ◌-◌, ◌++◌, [], ◌∷◌, length, replicate, append_assoc, ap}
use Rattle.std.proofs.Common.{◌∙◌, arith}
use Rattle.std.proofs.lemmas.List.{replicate-append-replicate}
use Rattle.sparse_convert.proofs.in_order.end_lanes.Goals as goal

pub loop-preserved : goal.loop-preserved
loop-preserved c =
    let starts = c.args.offsets.now.items in
    let end = c.args.end in
    let inv = c.loop.invariant in
    let m = c.loop.counter + 1 - length starts in
    let next : m + 1 ≡ c.loop.counter + 1 + 1 - length starts = omega arith in
    record {
      count = omega (arith, inv.count, c.push_reserved.ensures.len);
      ended = c.push_reserved.ensures.items ∙ ap (λ l. l ++ end ∷ []) inv.ended
          ∙ append_assoc starts (replicate m end) (end ∷ [])
          ∙ ap (λ l. starts ++ l) (replicate-append-replicate m 1 end
          ∙ ap (λ k. replicate k end) next);
      room = c.push_reserved.ensures.capacity ∙ inv.room;
    }
