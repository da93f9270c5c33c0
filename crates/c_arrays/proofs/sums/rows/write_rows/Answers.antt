use Rattle.std.proofs.Common.{◌≡◌, ◌+◌, ◌<◌, ◌≤◌, ℕ, length, set, ap, subst, ◌∙◌, refl, rules, arith}
use Rattle.std.proofs.lemmas.List.{drop-set-lt, length-set}
use Rattle.sparse_pattern.specs.Raw.{start_of}
use Rattle.sparse_pattern.proofs.PatternLanes.{length-lane}
use Rattle.c_arrays.specs.InnerFilling.{filled_none, filled_then}
use Rattle.c_arrays.proofs.Filling.{unchanged_later}
use Rattle.c_arrays.proofs.ScaledSums.{HasRows, no_rows, row_more, rows_held}
use Rattle.c_arrays.proofs.sums.rows.write_rows.Goals as goal

pub loop-i-init : goal.loop-i-init
loop-i-init g c =
    let f = g.T.Ring.value in
    let a = c.args.a.now in
    let b = c.args.b.now in
    let offsets = c.args.offsets.now in
    record {
      same_indices = refl;
      same_values = refl;
      most = omega arith;
      built = no_rows g.T.Ring.ring (f a.scale) (f b.scale) a.matrix b.matrix offsets
          c.args.indices.now c.args.values.now (omega (arith, c.requires.offsets_room));
      filled = filled_none 0 c.args.indices.now c.args.values.now;
      offsets_rest = refl;
    }

pub merge_lanes-requires-clause-room : goal.merge_lanes-requires-clause-room
merge_lanes-requires-clause-room g c =
    let p = c.args.a.now.matrix.pattern in
    let q = c.args.b.now.matrix.pattern in
    let i = c.loop-i.i in
    let inv = c.loop-i.invariant in
    let lt : i < p.major_dim = omega (arith, c.loop-i-test.true, c.major_dim-i-end.ensures) in
    let va = c.requires.first.valid.lanes i lt in
    let vb = c.requires.second.valid.lanes i (omega (arith, lt, c.requires.rows)) in
    omega (
      arith,
      ap length c.row.ensures.indices,
      ap length c.row-in-loop-i.ensures.indices,
      length-lane p i va,
      length-lane q i vb,
      va.ordered,
      va.inside,
      vb.ordered,
      vb.inside,
      inv.most,
      c.requires.room,
      c.requires.values_room,
      inv.filled.indices_count,
      inv.filled.values_count,
    )

pub loop-i-preserved : goal.loop-i-preserved
loop-i-preserved g c =
    let f = g.T.Ring.value in
    let a = c.args.a.now in
    let b = c.args.b.now in
    let p = a.matrix.pattern in
    let q = b.matrix.pattern in
    let i = c.loop-i.i in
    let was = c.loop-i in
    let inv = c.loop-i.invariant in
    let merged = c.merge_lanes.ensures in
    let now = c.merge_lanes.new.output in
    let one = c.row.ensures in
    let two = c.row-in-loop-i.ensures in
    let lt : i < p.major_dim = omega (arith, c.loop-i-test.true, c.major_dim-i-end.ensures) in
    let va = c.requires.first.valid.lanes i lt in
    let vb = c.requires.second.valid.lanes i (omega (arith, lt, c.requires.rows)) in
    let filled = filled_then inv.filled merged.kept.2 in
    let most : now.end ≤ start_of p (i + 1) + start_of q (i + 1) = omega (
      arith,
      merged.room,
      merged.kept.2.within,
      ap length one.indices,
      ap length two.indices,
      length-lane p i va,
      length-lane q i vb,
      va.ordered,
      vb.ordered,
      inv.most,
    ) in
    let within : now.end ≤ length now.indices.now =
    omega (arith, most, va.inside, vb.inside, c.requires.room, filled.indices_count) in
    record {
      same_indices = merged.kept.0 ∙ inv.same_indices;
      same_values = merged.kept.1 ∙ inv.same_values;
      most = most;
      built = row_more g.T.Ring.ring (f a.scale) (f b.scale) a.matrix b.matrix
          c.requires.first c.requires.second c.requires.rows c.requires.cols i was.entries.end
          now.end was.offsets was.entries.indices.now now.indices.now was.entries.values.now
          now.values.now lt
          (omega (
            arith,
            lt,
            c.requires.offsets_room,
            was.auto.offsets,
            length-set c.args.offsets.now 0 0,
          )) within inv.built
          (rw (one.indices, one.values, one.scale, two.indices, two.values, two.scale)
          at merged.gained);
      filled = filled;
      offsets_rest = drop-set-lt (i + 1 + 1) was.offsets (i + 1) now.end (omega arith)
          ∙ unchanged_later (i + 1) (i + 1 + 1) (set c.args.offsets.now 0 0) was.offsets (omega arith)
          inv.offsets_rest;
    }

pub returns-clause-written : goal.returns-clause-written
returns-clause-written g c =
    let R = g.T.Ring.ring in
    let f = g.T.Ring.value in
    let a = c.args.a.now in
    let b = c.args.b.now in
    let p = a.matrix.pattern in
    let q = b.matrix.pattern in
    let done = c.loop-i in
    let out = done.entries in
    let inv = done.invariant in
    let sa = c.requires.first in
    let sb = c.requires.second in
    let whole : done.i ≡ p.major_dim =
    omega (arith, c.loop-i-test.false, done.auto.i-end, c.major_dim-i-end.ensures) in
    let end_a = ap (λ n. start_of p n) whole ∙ sa.valid.last in
    let end_b = ap (λ n. start_of q n) (whole ∙ c.requires.rows) ∙ sb.valid.last in
    let held =
    rows_held R (f a.scale) (f b.scale) a.matrix b.matrix sa sb c.requires.rows c.requires.cols
    out.end done.offsets out.indices.now out.values.now
    (omega (arith, inv.most, end_a, end_b, c.requires.values_room, inv.filled.values_count))
    (subst (λ (n : ℕ). HasRows R (f a.scale) (f b.scale) a.matrix b.matrix n out.end
    done.offsets out.indices.now out.values.now) whole inv.built) in
    search rules
