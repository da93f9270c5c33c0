use Rattle.std.proofs.Common.{◌≡◌, ◌+◌, ◌<◌, ℕ, length, get_or, take, sym, ◌∙◌, ap, rules, arith}
use Rattle.std.specs.Prelude.{nat_eq}
use Rattle.std.proofs.lemmas.List.{get_or_default, length_push, take_all}
use Rattle.std.proofs.lemmas.Slice.Zip.{zip_turn, zip_end}
use Rattle.sparse_algebra.specs.Sums.{where_true}
use Rattle.sparse_pattern.specs.Raw.{lane_of}
use Rattle.sparse_pattern.proofs.LaneLists.{lane_has}
use Rattle.sparse_compressed.specs.InnerLaneValue.{lane_value}
use Rattle.sparse_compressed.proofs.LaneValues.{values_of, length-values, lane_value_is}
use Rattle.sparse_compressed.proofs.AddedLanes.{sum_zip_more}
use Rattle.sparse_sums.proofs.Merging.{more}
use Rattle.sparse_products.proofs.AddedTerms.{added_none, added_then, added_same}
use Rattle.sparse_products.proofs.AddedTerms.{entry_added, noted_none}
use Rattle.sparse_products.proofs.AddedTerms.{noted_then, noted_same}
use Rattle.sparse_products.proofs.serial.accumulate.add_matrix_row.Goals as goal

pub loop-j-init : goal.loop-j-init
loop-j-init g c = record {
  added = added_none;
  noted = noted_none (λ j h. omega (arith, h.1));
  counted = omega arith;
}

pub accumulator_of-at-requires : goal.accumulator_of-at-requires
accumulator_of-at-requires g c =
    let b = c.args.b.now in
    let k = c.args.k in
    let turn = zip_turn (lane_of b.pattern k) (values_of b k) c.loop-j.yielded
    c.into_iter-j-iterator.result c.loop-j.j-iterator c.next.new.self c.next.result
    (rw (← c.lane_entries.ensures.indices) (search rules))
    (rw (← c.lane_entries.ensures.values) (search rules)) c.loop-j.yielded_by
    (c.in-Some.j, c.in-Some.entry) c.in-Some.is c.next.ensures.steps in
    let j = c.in-Some.j.now in
    let own = c.requires.row_sums j ((lane_has b.pattern c.lane_entries.ensures.sound.valid k j
    c.requires.lane).0 (length c.loop-j.yielded, turn.0, sym (turn.2 j))) in
    (own.0, (c.loop-j.invariant.noted.kept j own.0).1 own.1)

pub prove-unreachable-requires : goal.prove-unreachable-requires
prove-unreachable-requires g c =
    let b = c.args.b.now in
    let k = c.args.k in
    let turn = zip_turn (lane_of b.pattern k) (values_of b k) c.loop-j.yielded
    c.into_iter-j-iterator.result c.loop-j.j-iterator c.next.new.self c.next.result
    (rw (← c.lane_entries.ensures.indices) (search rules))
    (rw (← c.lane_entries.ensures.values) (search rules)) c.loop-j.yielded_by
    (c.in-Some.j, c.in-Some.entry) c.in-Some.is c.next.ensures.steps in
    let j = c.in-Some.j.now in
    let own = c.requires.row_sums j ((lane_has b.pattern c.lane_entries.ensures.sound.valid k j
    c.requires.lane).0 (length c.loop-j.yielded, turn.0, sym (turn.2 j))) in
    omega (
      arith,
      own.2,
      g.met.S.Accumulators.one_sum c.loop-j.row_sums j own.0 c.accumulator_of-at.result
          ((c.loop-j.invariant.noted.kept j own.0).1 own.1) c.accumulator_of-at.ensures.found,
      c.loop-j.auto.target,
    )

pub loop-j-preserved : goal.loop-j-preserved
loop-j-preserved g c =
    let R = g.T.Ring.ring in
    let f = g.T.Ring.value in
    let z = g.T.Zero.zero_value in
    let scale = f c.args.scale in
    let b = c.args.b.now in
    let k = c.args.k in
    let js = lane_of b.pattern k in
    let vs = values_of b k in
    let n = length c.loop-j.yielded in
    let turn = zip_turn js vs c.loop-j.yielded c.into_iter-j-iterator.result c.loop-j.j-iterator
    c.next.new.self c.next.result (rw (← c.lane_entries.ensures.indices) (search rules))
    (rw (← c.lane_entries.ensures.values) (search rules)) c.loop-j.yielded_by
    (c.in-Some.j, c.in-Some.entry) c.in-Some.is c.next.ensures.steps in
    let i = c.in-Some.j.now in
    let v = c.in-Some.entry.now in
    let q = c.accumulator_of-at.result in
    let now = c.loop-j.row_sums in
    let old = c.loop-j.target in
    let inv = c.loop-j.invariant in
    let found = c.accumulator_of-at.ensures.found in
    let own = c.requires.row_sums i ((lane_has b.pattern c.lane_entries.ensures.sound.valid k i
    c.requires.lane).0 (n, turn.0, sym (turn.2 i))) in
    let within : q < length old = omega (
      arith,
      own.2,
      g.met.S.Accumulators.one_sum now i own.0 q ((inv.noted.kept i own.0).1 own.1) found,
      c.loop-j.auto.target,
    ) in
    let read = get_or_default old q c.index-target-at.result z within in
    let is : f c.add.result ≡ R.add (f (get_or old q z)) (R.mul scale (f v)) = c.add.ensures
    ∙ ap (λ x. R.add (f x) (f c.mul.result)) read
    ∙ ap (R.add (f (get_or old q z))) c.mul.ensures in
    let x = λ (m j : ℕ). lane_value R f (take m js) (take m vs) j in
    let hit = λ (j : ℕ). where_true R (nat_eq i j) (f v) in
    let sum : (j : ℕ) → R.mul scale (x (n + 1) j) ≡ R.add (R.mul scale (x n j))
    (R.mul scale (hit j)) = λ j. ap (R.mul scale)
    (sum_zip_more R (λ t. where_true R (nat_eq t.0 j) (f t.1)) js vs n i v turn.0 turn.1
    (turn.2 i) (turn.3 v)) ∙ R.laws.distrib scale (x n j) (hit j) in
    rw (length_push c.loop-j.yielded (c.in-Some.j, c.in-Some.entry)) record {
      added = added_then inv.added (entry_added (g.met.S.Accumulators.one_sum now)
          (g.met.S.Accumulators.one_column now) old i q v c.add.result found is) c.loop-j.auto.target
          inv.noted.kept sum;
      noted = noted_then inv.noted (record {
        kept = c.accumulator_of-at.ensures.kept;
        noted = c.accumulator_of-at.ensures.noted;
      }) (λ j. more js n i j turn.0 (turn.2 0));
      counted = omega (arith, inv.counted, c.tick.ensures);
    }

pub returns : goal.returns
returns g c =
    let R = g.T.Ring.ring in
    let f = g.T.Ring.value in
    let z = g.T.Zero.zero_value in
    let b = c.args.b.now in
    let k = c.args.k in
    let js = lane_of b.pattern k in
    let vs = values_of b k in
    let sound = c.lane_entries.ensures.sound in
    let count = zip_end js vs c.loop-j.yielded c.into_iter-j-iterator.result c.loop-j.j-iterator
    c.next.new.self c.next.result (rw (← c.lane_entries.ensures.indices) (search rules))
    (rw (← c.lane_entries.ensures.values) (search rules)) c.loop-j.yielded_by c.in-None.is
    c.next.ensures.steps in
    let n = length c.loop-j.yielded in
    let long = length-values R f z b sound k c.requires.lane in
    let all : take n js ≡ js = take_all n js (omega arith) in
    let all' : take n vs ≡ vs = take_all n vs (omega arith) in
    let inv = rw (all, all') at c.loop-j.invariant in
    record {
      added = added_same (lane_value_is R f z b sound k c.requires.lane) inv.added;
      noted = noted_same (λ j. lane_has b.pattern sound.valid k j c.requires.lane) inv.noted;
      counted = omega (arith, inv.counted, count, long);
    }
