use Rattle.std.proofs.Common.{◌≡◌, length, slice_index, arith}
use Rattle.std.proofs.lemmas.Bool.{OnTrue_at, OnTrue_from}
use Rattle.std.proofs.lemmas.List.{get_or_read}
use Rattle.sparse_convert.specs.InnerTripletLanes.{triplets_of_lane}
use Rattle.sparse_convert.proofs.InOrder.{lanes_ended, open_lane, triplet_added}
use Rattle.sparse_convert.proofs.in_order.push_triplet.Goals as goal

pub returns-clause-held : goal.returns-clause-held
returns-clause-held g c = OnTrue_from c.push_entry.result _ (λ accepted ts h.
    let major = c.args.triplet.0 in
    let starts = c.end_lanes.new.offsets.items in
    let end : c.len-2.result ≡ length c.args.indices.now.items = omega arith in
    let ended = rw (← end, ← c.end_lanes.ensures.ended) at
    (lanes_ended major (omega (arith, c.if-major-len.false)) h) in
    let start : c.index.result.now ≡ slice_index starts major =
    get_or_read starts major _ (omega (arith, c.end_lanes.ensures.count)) c.index.ensures 0 in
    let put = c.push_entry.ensures in
    let lane = OnTrue_at accepted put.merged (triplets_of_lane ts major) (rw start (open_lane ended)) in
    triplet_added ended c.args.triplet.1 c.args.triplet.2 (omega (arith, put.longer))
    (omega (arith, put.sizes)) (rw start at put.kept_indices) (rw start at put.kept_values)
    (rw start at lane))
