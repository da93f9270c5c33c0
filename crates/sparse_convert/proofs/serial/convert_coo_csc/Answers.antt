use Rattle.std.proofs.Common.{ap, ◌∙◌}
use Rattle.sparse_algebra.specs.Plain.{plain_of_triplets, plain_transpose}
use Rattle.sparse_coo_dense.proofs.CooParts.{parts-split}
use Rattle.sparse_compressed.specs.PlainOfLanes.{plain_of_cols}
use Rattle.sparse_convert.proofs.StoredTriplets.{exchanged_parts}
use Rattle.sparse_convert.proofs.MatrixLists.{plain_of_transposed_list}
use Rattle.sparse_convert.proofs.StoredTriplets.{zip_of_transposed}
use Rattle.sparse_convert.proofs.serial.convert_coo_csc.Goals as goal

pub invariant_of-triplets : goal.invariant_of-triplets
invariant_of-triplets g c = record {
  lists = rw (c.nrows.ensures, c.ncols.ensures) (exchanged_parts (parts-split c.args.coo.now _ _ _
      c.row_indices.ensures.rows c.col_indices.ensures.cols c.values.ensures
      c.row_indices.ensures.inside));
}

pub returns-clause-plain : goal.returns-clause-plain
returns-clause-plain g c =
    let R = g.T.Ring.ring in
    let f = g.T.Ring.value in
    let m = c.args.coo.now in
    ap (plain_of_cols R f) c.from_cs.ensures ∙ ap (plain_transpose R) c.in_ok-compress.ensures.plain
    ∙ rw (
      c.nrows.ensures,
      c.ncols.ensures,
      c.row_indices.ensures.rows,
      c.col_indices.ensures.cols,
      c.values.ensures,
    ) (ap (plain_transpose R) (ap (plain_of_triplets R f m.ncols m.nrows)
    (zip_of_transposed m.triplets) ∙ plain_of_transposed_list R f m.nrows m.ncols m.triplets))
