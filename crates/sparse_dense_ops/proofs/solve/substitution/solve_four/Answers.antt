use Rattle.std.proofs.Common.{◌≡◌, ◌++◌, ℕ, List, length, ap, ◌∙◌, arith}
use Rattle.sparse_dense_ops.specs.InnerBlocks.{AreChanged}
use Rattle.sparse_dense_ops.proofs.ColumnBlocks.{four_columns}
use Rattle.sparse_dense_ops.proofs.solve.substitution.solve_four.Goals as goal
use Rattle.sparse_dense_ops.proofs.solve.substitution.solve_four.Given.{Over}
use Rattle.sparse_dense_ops.proofs.solve.substitution.solve_four.Goals.{After-split_at_mut-third}

-- the list of four columns, each of which is changed
changed : (g : Over) (c : After-split_at_mut-third g)
    {P : ℕ → List g.row.T.Denot → List g.row.T.Denot → Type 0} (u v w x : List g.row.T.Denot)
    → length u ≡ length c.split_at_mut-first.result.0.now
    → length v ≡ length c.split_at_mut-second.result.0.now
    → length w ≡ length c.split_at_mut-third.result.0.now
    → length x ≡ length c.split_at_mut-third.result.1.now
    → P 0 c.split_at_mut-first.result.0.now u → P 1 c.split_at_mut-second.result.0.now v
    → P 2 c.split_at_mut-third.result.0.now w → P 3 c.split_at_mut-third.result.1.now x
    → AreChanged c.args.nrows 4 P c.args.x.now (u ++ (v ++ (w ++ x)))
changed g c u v w x same same_2 same_3 same_4 first second third fourth =
    let one = c.split_at_mut-first.ensures in
    let two = c.split_at_mut-second.ensures in
    let three = c.split_at_mut-third.ensures in
    let parts = one.value ∙ ap (λ r. c.split_at_mut-first.result.0.now ++ r)
    (two.value ∙ ap (λ r. c.split_at_mut-second.result.0.now ++ r) three.value) in
    rw parts (four_columns (record { long = one.front_len; same = same; is = first })
    (record { long = two.front_len; same = same_2; is = second })
    (record { long = three.front_len; same = same_3; is = third })
    (record {
      long = omega (arith, c.requires.count, one.back_len, two.back_len, three.back_len);
      same = same_4;
      is = fourth;
    }))

pub returns-in-NoOp : goal.returns-in-NoOp
returns-in-NoOp g c =
    let new = c.solve_forward_four.new in
    let same = c.solve_forward_four.auto in
    let is = c.solve_forward_four.ensures in
    rw c.in-NoOp.is (changed g (goal.at.returns-in-NoOp g c).After-split_at_mut-third new.first
    new.second new.third new.fourth same.first same.second same.third same.fourth is.first
    is.second is.third is.fourth)

pub returns-in-Transpose : goal.returns-in-Transpose
returns-in-Transpose g c =
    let new = c.solve_backward_four.new in
    let same = c.solve_backward_four.auto in
    let is = c.solve_backward_four.ensures in
    rw c.in-Transpose.is (changed g (goal.at.returns-in-Transpose g c).After-split_at_mut-third
    new.first new.second new.third new.fourth same.first same.second same.third same.fourth
    is.first is.second is.third is.fourth)

pub solve_forward_four-requires-clause-pivots : goal.solve_forward_four-requires-clause-pivots
solve_forward_four-requires-clause-pivots g c = rw c.in-NoOp.is at c.requires.pivots

pub solve_backward_four-requires-clause-pivots : goal.solve_backward_four-requires-clause-pivots
solve_backward_four-requires-clause-pivots g c = rw c.in-Transpose.is at c.requires.pivots
