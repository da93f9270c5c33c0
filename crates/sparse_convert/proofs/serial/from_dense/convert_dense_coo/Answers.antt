use Rattle.std.proofs.Common.{◌≡◌, sym, map, get_or, length, ap, ◌∙◌}
use Rattle.std.specs.List.{filter}
use Rattle.sparse_coo_dense.specs.Coo.{coo_of, appended}
use Rattle.sparse_algebra.specs.Plain.{below}
use Rattle.sparse_convert.specs.FromDense.{differs_from}
use Rattle.sparse_convert.proofs.DenseLanes.{column_more, no_values}
use Rattle.sparse_convert.proofs.serial.from_dense.convert_dense_coo.Goals as goal

pub loop-j-preserved : goal.loop-j-preserved
loop-j-preserved g c =
    let E = g.T.PartialEq.eq in
    let z = g.T.Zero.zero_value in
    let d = c.args.dense.now in
    let j = c.loop-j.j in
    let column = c.column.result.now in
    c.in_ok-push_column.ensures
    ∙ ap (λ m. appended m (filter (differs_from E z)
    (map (λ i. (i, j, get_or column i z)) (below (length column))))) c.loop-j.invariant
    ∙ ap (coo_of d.nrows d.ncols) (column_more E z d j column c.column.ensures.rows
    c.column.ensures.values)

pub returns-then-nrows-eq0 : goal.returns-then-nrows-eq0
returns-then-nrows-eq0 g c =
    let E = g.T.PartialEq.eq in
    let z = g.T.Zero.zero_value in
    let d = c.args.dense.now in
    let none : d.nrows ≡ 0 = sym c.nrows-2.ensures ∙ c.if-nrows-eq0.true in
    rw (no_values z d none, ← c.nrows.ensures, ← c.ncols.ensures) c.new-coo.ensures
