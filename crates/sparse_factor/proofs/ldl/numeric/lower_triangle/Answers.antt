use Rattle.std.proofs.Common.{ap, ◌∙◌}
use Rattle.std.specs.Prelude.{nat_le}
use Rattle.sparse_algebra.specs.Plain.{plain_transpose}
use Rattle.sparse_factor.proofs.FillPatterns.{lower_entries}
use Rattle.sparse_factor.proofs.Results.{ok_both}
use Rattle.sparse_factor.proofs.ldl.numeric.lower_triangle.Goals as goal

pub returns-clause-plain : goal.returns-clause-plain
returns-clause-plain g c =
    let R = g.T.Ring.ring in
    let u = c.in_ok-upper_triangle.field-0 in
    let upper = c.in_ok-upper_triangle.ensures in
    let kept = c.kept_cols_law.ensures (λ i j. nat_le i j) c.args.a.now u upper.same_shape upper.kept in
    ok_both _ _ _ _
    (λ t transposed sound. c.transpose_law.ensures.cols u t upper.sound sound transposed
    ∙ ap (plain_transpose R) kept) c.transpose-2.ensures.transposed c.transpose-2.ensures.sound

pub returns-clause-entries : goal.returns-clause-entries
returns-clause-entries g c =
    let a = c.args.a.now in
    let u = c.in_ok-upper_triangle.field-0 in
    let upper = c.in_ok-upper_triangle.ensures in
    let kept = c.kept_cols_law.ensures (λ i j. nat_le i j) a u upper.same_shape upper.kept in
    ok_both _ _ _ _
    (λ t transposed _. lower_entries g.T.Ring.ring g.T.Ring.value a u c.values.ensures.sound
    upper.sound kept t transposed.pattern) c.transpose-2.ensures.transposed
    c.transpose-2.ensures.sound
