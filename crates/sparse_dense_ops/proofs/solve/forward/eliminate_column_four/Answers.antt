use Rattle.std.proofs.Common.{arith}
use Rattle.sparse_dense_ops.proofs.Elimination.{eliminated}
use Rattle.sparse_dense_ops.proofs.solve.forward.eliminate_column_four.Goals as goal

pub returns : goal.returns
returns g c =
    let z = g.T.Zero.zero_value in
    let new = c.add_multiple_four.new in
    let added = c.add_multiple_four.ensures in
    let need = c.requires in
    record {
      first = eliminated z c.args.first.now new.first c.divide_entry.result need.row need.above
          c.divide_entry.ensures.value c.neg-a.ensures
          (rw c.divide_entry.ensures.written at added.first);
      second = eliminated z c.args.second.now new.second c.divide_entry-2.result
          (omega (arith, need.row, need.rows_2)) need.above
          c.divide_entry-2.ensures.value c.neg-b.ensures
          (rw c.divide_entry-2.ensures.written at added.second);
      third = eliminated z c.args.third.now new.third c.divide_entry-3.result
          (omega (arith, need.row, need.rows_3)) need.above
          c.divide_entry-3.ensures.value c.neg-c.ensures
          (rw c.divide_entry-3.ensures.written at added.third);
      fourth = eliminated z c.args.fourth.now new.fourth c.divide_entry-4.result
          (omega (arith, need.row, need.rows_4)) need.above
          c.divide_entry-4.ensures.value c.neg-d.ensures
          (rw c.divide_entry-4.ensures.written at added.fourth);
    }
