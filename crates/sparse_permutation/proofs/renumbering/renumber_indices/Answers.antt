use Rattle.std.proofs.Common.{◌<◌, length, get_or, arith}
use Rattle.std.proofs.lemmas.List.{get_or_default}
use Rattle.std.proofs.lemmas.List.Edits.{map_over_more}
use Rattle.sparse_permutation.proofs.renumbering.renumber_indices.Goals as goal

pub loop-index-preserved : goal.loop-index-preserved
loop-index-preserved c =
    let old = c.args.indices.items in
    let now = c.loop-index.index-items in
    let i = c.loop-index.index-index in
    let within : i < length old = omega arith in
    let inside : i < length now = omega arith in
    map_over_more (λ k. get_or c.args.numbers.now k 0) old now i (get_or now i 0) within
    c.loop-index.invariant (get_or_default now i 0 (get_or now i 0) inside)
