use Rattle.std.proofs.Common.{ap, ◌∙◌}
use Rattle.sparse_coo_dense.specs.CooPlain.{plain_of_coo}
use Rattle.sparse_coo_dense.proofs.CooParts.{coo-split, parts-split}
use Rattle.sparse_compressed.specs.PlainOfLanes.{plain_of_rows}
use Rattle.sparse_convert.proofs.serial.convert_coo_csr.Goals as goal

pub invariant_of-triplets : goal.invariant_of-triplets
invariant_of-triplets g c = record {
  lists = rw (c.nrows.ensures, c.ncols.ensures) (parts-split c.args.coo.now _ _ _
      c.row_indices.ensures.rows c.col_indices.ensures.cols c.values.ensures
      c.row_indices.ensures.inside);
}

pub returns-clause-plain : goal.returns-clause-plain
returns-clause-plain g c = ap (plain_of_rows g.T.Ring.ring g.T.Ring.value) c.from_cs.ensures
    ∙ c.in_ok-compress.ensures.plain ∙ rw (c.nrows.ensures, c.ncols.ensures)
    (ap (plain_of_coo g.T.Ring.ring g.T.Ring.value) (coo-split c.args.coo.now _ _ _
    c.row_indices.ensures.rows c.col_indices.ensures.cols c.values.ensures))
