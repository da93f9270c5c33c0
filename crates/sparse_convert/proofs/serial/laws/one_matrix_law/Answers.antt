use Rattle.std.proofs.Common.{sym, ◌∙◌}
use Rattle.sparse_convert.specs.OneMatrix.{Triplets, Rows, Cols}
use Rattle.sparse_convert.proofs.ConversionsKeepPlain.{ConvertsTo-same, ConvertsTo-sound}
use Rattle.sparse_convert.proofs.MatrixLists.{columns-list}
use Rattle.sparse_convert.proofs.serial.laws.one_matrix_law.Goals as goal

pub returns : goal.returns
returns g c =
    let R = g.T.Ring.ring in
    let f = g.T.Ring.value in
    let z = g.T.Zero.zero_value in
    let same = ConvertsTo-same R f z in
    let sound = ConvertsTo-sound R f z in
    let equal = c.equal_law.ensures in
    record {
      three_representations = λ x a m n s list rows cols.
          let back = sym (same x (Triplets a) s list) in
          record { rows = same x (Rows m) s rows ∙ back; cols = same x (Cols n) s cols ∙ back };
      rows_equal = λ x m n s left right.
          (equal.rows m n (sound x (Rows m) s left) (sound x (Rows n) s right)).1
          (same x (Rows m) s left ∙ sym (same x (Rows n) s right));
      cols_equal = λ x m n s left right.
          (equal.cols m n (sound x (Cols m) s left) (sound x (Cols n) s right)).1
          (same x (Cols m) s left ∙ sym (same x (Cols n) s right));
      rows_and_back = λ m n sm sn back. (equal.rows m n sm sn).1 (sym back);
      cols_and_back = λ m n sm sn back. (equal.cols m n sm sn).1 (sym (back ∙ columns-list R f m));
      same_lists = λ a b m n k l sm sn sk sl lists left right. (
        (equal.rows m k sm sk).1 (left.rows ∙ lists ∙ sym right.rows),
        (equal.cols n l sn sl).1 (left.cols ∙ lists ∙ sym right.cols),
      );
    }
