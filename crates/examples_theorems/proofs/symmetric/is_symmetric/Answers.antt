use Rattle.std.proofs.Common.{sym, ◌∙◌}
use Rattle.examples_theorems.proofs.symmetric.is_symmetric.Goals as goal

pub returns : goal.returns
returns g c = λ yes.
    let a = c.args.a.now in
    let t = c.in_ok-transposed.transposed in
    let sound = c.in_ok-transposed.ensures.sound in
    sym (c.transpose_law.ensures.cols a t c.values.ensures.sound sound
    c.in_ok-transposed.ensures.transposed)
    ∙ (c.equal_law.ensures.cols t a sound c.values.ensures.sound).0 (sym c.eq.ensures ∙ yes)
