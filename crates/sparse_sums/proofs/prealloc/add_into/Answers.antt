use Rattle.std.proofs.Common.{◌<◌, length, ap, ◌∙◌, refl, arith}
use Rattle.sparse_compressed.proofs.Arrays.{offset_within}
use Rattle.sparse_compressed.specs.PlainOfLanes.{plain_of_rows}
use Rattle.sparse_algebra.specs.Prealloc.{plain_transpose_if}
use Rattle.sparse_sums.proofs.prealloc.add_into.Goals as goal

pub returns-then-not-covers : goal.returns-then-not-covers
returns-then-not-covers g c =
    let covered = rw c.pattern.ensures.pattern at c.covers.ensures in
    record {
      count = refl;
      covered = (λ h. cc, λ h. let ok = covered.1 h in cc);
      kind = c.of_sum_pattern.ensures;
      unchanged = refl;
      sound = c.pattern.ensures.sound;
      added = tt;
    }

pub returns : goal.returns
returns g c =
    let R = g.T.Ring.ring in
    let f = g.T.Ring.value in
    let a = plain_transpose_if R c.args.transposed (plain_of_rows R f c.args.a.now) in
    let places = rw c.pattern.ensures.pattern at c.covers.ensures.0 in
    record {
      count = c.add_entries.ensures.count ∙ c.scale_values.ensures.count;
      covered = (λ covered. places c.if-not-covers.false, λ all. refl);
      kind = tt;
      unchanged = tt;
      sound = c.pattern.ensures.sound;
      added = λ i j p at.
          let inside = offset_within c.args.pattern.now c.major_offsets.ensures.valid i j p at in
          let within : p < length c.args.values.now = omega (arith, inside, c.requires.count) in
          c.add_entries.ensures.added i j p at
          ∙ ap (λ y. R.add y (R.mul (f c.args.alpha) (a.value i j)))
          (c.scale_values.ensures.each p within);
    }
