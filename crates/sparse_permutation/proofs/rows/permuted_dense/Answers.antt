use Rattle.std.proofs.Common.{◌≡◌, ◌≤◌, ◌*◌, length, ap, sym, ◌∙◌, arith}
use Rattle.std.proofs.lemmas.Grind.{common_steps}
use Rattle.sparse_permutation.proofs.PermutedColumns.{no_column, column_more, all_columns, no_rows}
use Rattle.sparse_permutation.proofs.rows.permuted_dense.Goals as goal

pub returns-then-is_empty : goal.returns-then-is_empty
returns-then-is_empty g c =
    let a = c.args.a.now in
    let none : length c.args.order.now ≡ 0 = grind (arith, common_steps) in
    let full : length a.values ≡ a.nrows * a.ncols =
    sym (ap length c.as_slice.ensures.values) ∙ c.as_slice.ensures.count in
    rw c.in_ok-permuted.ensures (no_rows a c.args.order.now full (c.requires.rows ∙ none))

pub loop-j-init : goal.loop-j-init
loop-j-init g c =
    let a = c.args.a.now in
    let full : length a.values ≡ a.nrows * a.ncols =
    sym (ap length c.as_slice.ensures.values) ∙ c.as_slice.ensures.count in
    rw c.in_ok-permuted.ensures (no_column a c.args.order.now full)

pub loop-j-preserved : goal.loop-j-preserved
loop-j-preserved g c = column_more c.args.a.now c.args.order.now c.loop-j.permuted
    c.write_column.new.permuted c.loop-j.j c.loop-j.invariant c.write_column.ensures

pub returns : goal.returns
returns g c =
    let whole : c.args.a.now.ncols ≤ c.loop-j.j = omega arith in
    all_columns c.args.a.now c.args.order.now c.loop-j.permuted c.loop-j.j whole
    c.loop-j.invariant
