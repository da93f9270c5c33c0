use Rattle.std.proofs.Common.{ap, ◌∙◌}
use Rattle.sparse_coo_dense.specs.Coo.{coo_of}
use Rattle.sparse_convert.proofs.StoredTriplets.{parts_by_cols, zip_of_transposed}
use Rattle.sparse_compressed.specs.Compressed.{lane_triplets}
use Rattle.sparse_convert.proofs.serial.triplets.convert_csc_coo.Goals as goal

pub coo_from_lists-requires : goal.coo_from_lists-requires
coo_from_lists-requires g c =
    let lists = c.in_ok-cols.ensures in
    let core = c.cs.ensures.core in
    rw (c.nrows.ensures, c.ncols.ensures, lists.lanes, lists.indices, lists.values, core)
    (parts_by_cols c.args.csc.now (rw core at lists.sound))

pub returns : goal.returns
returns g c =
    let lists = c.in_ok-cols.ensures in
    let core = c.cs.ensures.core in
    let m = c.args.csc.now in
    c.coo_from_lists.ensures
    ∙ rw (c.nrows.ensures, c.ncols.ensures, lists.lanes, lists.indices, lists.values, core)
    (ap (coo_of m.pattern.minor_dim m.pattern.major_dim) (zip_of_transposed (lane_triplets m)))
