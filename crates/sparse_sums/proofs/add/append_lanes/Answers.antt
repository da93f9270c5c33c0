use Rattle.std.proofs.Common.{◌≡◌, ◌<◌, not, eqb, ◌++◌, ◌∷◌, [], ap, ◌∙◌, arith}
use Rattle.sparse_pattern.specs.Raw.{Raw}
use Rattle.sparse_sums.proofs.BuiltSums.{none_built}
use Rattle.sparse_sums.proofs.SumLanes.{sum_more, sum_is, sum_sound}
use Rattle.sparse_sums.proofs.add.append_lanes.Goals as goal

pub loop-i-init : goal.loop-i-init
loop-i-init g c =
    let r = c.requires in
    let offsets_is : c.push.new.self.items ≡ 0 ∷ [] =
    c.in_ok-push.ensures.items ∙ ap (λ l. l ++ 0 ∷ []) r.no_offsets in
    record {
      built = rw (offsets_is, r.no_indices, r.no_values) none_built;
    }

pub loop-i-preserved : goal.loop-i-preserved
loop-i-preserved g c =
    let r = c.requires in
    let lanes = c.major_dim-i-end.ensures ∙ ap (λ (d : Raw). d.major_dim) c.pattern.ensures.pattern
    in
    let lt : c.loop-i.i < c.args.a.now.pattern.major_dim =
    omega (arith, c.loop-i-test.true, lanes) in
    let gained = c.in_ok-append_lane.ensures.gained in
    let was = c.loop-i in
    let now = c.append_lane.new in
    record {
      built = sum_more g.T.Ring.ring g.T.Ring.value g.T.Zero.zero_value (not (eqb g.row.NEGATE 0))
          c.args.a.now c.args.b.now c.pattern.ensures.sound r.sound r.lanes r.width was.i
          was.offsets.items _ was.indices.items now.indices.items was.values.items
          now.values.items lt was.invariant.built gained
          (c.in_ok-push-2.ensures.items ∙ ap (λ n. was.offsets.items ++ n ∷ [])
          (c.len.ensures ∙ now.indices.ok.0));
    }

pub returns : goal.returns
returns g c =
    let R = g.T.Ring.ring in
    let f = g.T.Ring.value in
    let z = g.T.Zero.zero_value in
    let negate = not (eqb g.row.NEGATE 0) in
    let a = c.args.a.now in
    let b = c.args.b.now in
    let sa = c.pattern.ensures.sound in
    let r = c.requires in
    let done = c.loop-i in
    let lanes = c.major_dim-i-end.ensures ∙ ap (λ (d : Raw). d.major_dim) c.pattern.ensures.pattern
    in
    let whole : done.i ≡ a.pattern.major_dim =
    omega (arith, c.loop-i-test.false, done.auto.i-end, lanes) in
    record {
      sound = sum_sound R f z negate a b sa r.sound r.lanes r.width done.i done.offsets.items
          done.indices.items done.values.items whole done.invariant.built;
      sum = sum_is R f z negate a b sa r.sound r.lanes r.width done.i done.offsets.items
          done.indices.items done.values.items whole done.invariant.built;
    }
