use Rattle.std.proofs.Common.{◌≡◌, ◌+◌, ◌<◌, ℕ, length, get_or}
use Rattle.std.proofs.Common.{[], All, take, sym, ◌∙◌, ap, rules, arith}
use Rattle.std.specs.Prelude.{zip}
use Rattle.std.proofs.lemmas.List.{length_push, take_all}
use Rattle.std.proofs.lemmas.Slice.Zip.{zip_turn, zip_end}
use Rattle.sparse_algebra.specs.Sums.{sum_by}
use Rattle.sparse_pattern.specs.Raw.{start_of, end_of, lane_of}
use Rattle.sparse_pattern.proofs.PatternLanes.{length-lane, get_or-lane}
use Rattle.sparse_compressed.specs.PlainOfLanes.{plain_of_rows}
use Rattle.sparse_compressed.proofs.LaneValues.{values_of, length-values, row_sum}
use Rattle.sparse_compressed.proofs.AddedLanes.{sum_zip_more}
use Rattle.sparse_products.specs.InnerUpdates.{triples_below}
use Rattle.sparse_products.proofs.ProductSums.{steps_none, triples_more}
use Rattle.sparse_products.proofs.AddedTerms.{added_none, added_then, added_same, noted_none, noted_then}
use Rattle.sparse_products.proofs.ProductLanes.{in_lanes_none, in_lanes_then, lane_below}
use Rattle.sparse_products.proofs.ProductRows.{zero_off}
use Rattle.sparse_products.proofs.serial.accumulate.add_product_row.Goals as goal

pub loop-k-init : goal.loop-k-init
loop-k-init g c =
    let p = c.args.matrices.a.now.pattern in
    let s = start_of p c.args.i in
    let e : s + 0 ≡ s = omega arith in
    record {
      added = added_none;
      noted = noted_none (λ j h. omega (arith, h.1.1));
      counted = omega (arith, ap (λ n. triples_below n p c.args.matrices.b.now.pattern) e);
    }

pub add_matrix_row-requires : goal.add_matrix_row-requires
add_matrix_row-requires g c =
    let a = c.args.matrices.a.now in
    let i = c.args.i in
    let n = length c.loop-k.yielded in
    let k = c.in-Some.k.now in
    let turn = zip_turn (lane_of a.pattern i) (values_of a i) c.loop-k.yielded
    c.into_iter-k-iterator.result c.loop-k.k-iterator c.next.new.self c.next.result
    (rw (← c.lane_entries.ensures.indices) (search rules))
    (rw (← c.lane_entries.ensures.values) (search rules)) c.loop-k.yielded_by
    (c.in-Some.k, c.in-Some.entry) c.in-Some.is c.next.ensures.steps in
    let below = lane_below a.pattern c.lane_entries.ensures.sound.valid i c.requires.lane n 0
    turn.0 in
    record {
      lane = omega (arith, turn.2 0, below, c.requires.inner);
      row_sums = λ j here.
          let own = c.requires.row_sums j (k, (n, turn.0, sym (turn.2 k)), here) in (
            own.0,
            (c.loop-k.invariant.noted.kept j own.0).1 own.1,
            omega (arith, own.2, c.loop-k.auto.target),
          );
    }

pub loop-k-preserved : goal.loop-k-preserved
loop-k-preserved g c =
    let R = g.T.Ring.ring in
    let f = g.T.Ring.value in
    let z = g.T.Zero.zero_value in
    let a = c.args.matrices.a.now in
    let b = c.args.matrices.b.now in
    let i = c.args.i in
    let ks = lane_of a.pattern i in
    let vs = values_of a i in
    let n = length c.loop-k.yielded in
    let k = c.in-Some.k.now in
    let v = c.in-Some.entry.now in
    let alpha = f c.args.alpha in
    let turn = zip_turn ks vs c.loop-k.yielded c.into_iter-k-iterator.result c.loop-k.k-iterator
    c.next.new.self c.next.result (rw (← c.lane_entries.ensures.indices) (search rules))
    (rw (← c.lane_entries.ensures.values) (search rules)) c.loop-k.yielded_by
    (c.in-Some.k, c.in-Some.entry) c.in-Some.is c.next.ensures.steps in
    let lane = c.lane_entries.ensures.sound.valid.lanes i c.requires.lane in
    let s = start_of a.pattern i in
    let at : get_or a.pattern.indices (s + n) 0 ≡ k = sym (get_or-lane a.pattern i lane n turn.0)
    ∙ sym (turn.2 0) in
    let in_lane : s + n < length a.pattern.indices =
    omega (arith, turn.0, length-lane a.pattern i lane, lane.inside) in
    let e : s + (n + 1) ≡ s + n + 1 = omega arith in
    let inv = c.loop-k.invariant in
    let row = (plain_of_rows R f b).value k in
    let x = λ (m j : ℕ). sum_by R (λ t. R.mul (f t.1) ((plain_of_rows R f b).value t.0 j))
    (zip (take m ks) (take m vs)) in
    let scale : f c.mul.result ≡ R.mul alpha (f v) = c.mul.ensures in
    let sum : (j : ℕ) → R.mul alpha (x (n + 1) j) ≡ R.add (R.mul alpha (x n j))
    (R.mul (f c.mul.result) (row j)) = λ j. ap (R.mul alpha)
    (sum_zip_more R (λ t. R.mul (f t.1) ((plain_of_rows R f b).value t.0 j)) ks vs n k v turn.0
    turn.1 (turn.2 k) (turn.3 v)) ∙ R.laws.distrib alpha (x n j) (R.mul (f v) (row j))
    ∙ ap (R.add (R.mul alpha (x n j))) (sym (R.laws.mul_assoc alpha (f v) (row j))
    ∙ ap (λ y. R.mul y (row j)) (sym scale)) in
    rw (length_push c.loop-k.yielded (c.in-Some.k, c.in-Some.entry)) record {
      added = added_then inv.added c.add_matrix_row.ensures.added c.loop-k.auto.target
          inv.noted.kept sum;
      noted = noted_then inv.noted c.add_matrix_row.ensures.noted
          (in_lanes_then b.pattern ks n k turn.0 (turn.2 0));
      counted = omega (
        arith,
        inv.counted,
        c.tick.ensures,
        c.add_matrix_row.ensures.counted,
        triples_more (s + n) k a.pattern b.pattern in_lane at,
        ap (λ n. triples_below n a.pattern b.pattern) e,
      );
    }

pub returns : goal.returns
returns g c =
    let R = g.T.Ring.ring in
    let f = g.T.Ring.value in
    let z = g.T.Zero.zero_value in
    let a = c.args.matrices.a.now in
    let b = c.args.matrices.b.now in
    let i = c.args.i in
    let ks = lane_of a.pattern i in
    let vs = values_of a i in
    let sound = c.lane_entries.ensures.sound in
    let count = zip_end ks vs c.loop-k.yielded c.into_iter-k-iterator.result c.loop-k.k-iterator
    c.next.new.self c.next.result (rw (← c.lane_entries.ensures.indices) (search rules))
    (rw (← c.lane_entries.ensures.values) (search rules)) c.loop-k.yielded_by c.in-None.is
    c.next.ensures.steps in
    let long = length-values R f z a sound i c.requires.lane in
    let n = length c.loop-k.yielded in
    let all : take n ks ≡ ks = take_all n ks (omega arith) in
    let all' : take n vs ≡ vs = take_all n vs (omega arith) in
    let lane = sound.valid.lanes i c.requires.lane in
    let s = start_of a.pattern i in
    let whole : s + n ≡ end_of a.pattern i =
    omega (arith, count, long, length-lane a.pattern i lane, lane.ordered) in
    let inv = rw (all, all') at c.loop-k.invariant in
    record {
      added = added_same (λ j. row_sum R f z a sound i c.requires.lane
          (λ k. (plain_of_rows R f b).value k j)) inv.added;
      noted = inv.noted;
      counted = omega (
        arith,
        inv.counted,
        whole,
        ap (λ n. triples_below n a.pattern b.pattern) whole,
      );
    }

pub lists_only_empty_lanes-requires : goal.lists_only_empty_lanes-requires
lists_only_empty_lanes-requires g c =
    let a = c.args.matrices.a.now.pattern in
    rw (c.lane_entries.ensures.indices, c.pattern.ensures.pattern, ← c.requires.inner)
    (lane_below a c.lane_entries.ensures.sound.valid c.args.i c.requires.lane)

pub returns-then-lists_only_empty_lanes : goal.returns-then-lists_only_empty_lanes
returns-then-lists_only_empty_lanes g c =
    let R = g.T.Ring.ring in
    let f = g.T.Ring.value in
    let a = c.args.matrices.a.now in
    let b = c.args.matrices.b.now in
    let i = c.args.i in
    let sa = c.lane_entries.ensures.sound in
    let sb = c.pattern.ensures.sound in
    let empty : All (λ k. lane_of b.pattern k ≡ []) (lane_of a.pattern i) =
    rw (c.lane_entries.ensures.indices, c.pattern.ensures.pattern) at
    c.lists_only_empty_lanes.ensures c.if-lists_only_empty_lanes.true in
    let none = in_lanes_none b.pattern (lane_of a.pattern i) sb.valid empty in
    record {
      added = added_same (λ j. sym (zero_off R f sa sb c.requires.inner i c.requires.lane []
          (λ j h. absurd (none j h)) j (λ h. omega (arith, h.1)))) added_none;
      noted = noted_none none;
      counted = omega (
        arith,
        c.tick_for_each.ensures,
        ap length c.lane_entries.ensures.indices,
        steps_none a.pattern b.pattern sa.valid i c.requires.lane empty,
      );
    }
