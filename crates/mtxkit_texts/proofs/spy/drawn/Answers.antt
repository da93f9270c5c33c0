use Rattle.std.proofs.Common.{arith}
use Rattle.mtxkit_texts.proofs.spy.drawn.Goals as goal

pub returns : goal.returns
returns c =
    let sizes = c.scaled_sizes-height.ensures in
    let picture = c.in_ok-draw.ensures in
    let high = picture.height in
    let wide = picture.width in
    record {
      sizes = rw (high, wide, ← c.major_dim.ensures, ← c.minor_dim.ensures) sizes.sizes;
      high = rw high sizes.height;
      wide = rw wide sizes.width;
      cells = rw (high, wide) picture.cells;
      counts = λ r k down across. rw (← high, ← wide)
          at (picture.counts r k (omega (arith, down, high)) (omega (arith, across, wide)));
      black = λ r k down across. rw (← high, ← wide)
          at (picture.black r k (omega (arith, down, high)) (omega (arith, across, wide)));
    }
