use Rattle.std.proofs.Common.{ap, ◌∙◌, refl}
use Rattle.sparse_coo_dense.specs.Coo.{coo_of}
use Rattle.sparse_coo_dense.proofs.TripletRuns.{zip-split}
use Rattle.sparse_convert.proofs.StoredTriplets.{parts_by_rows}
use Rattle.sparse_compressed.specs.Compressed.{lane_triplets}
use Rattle.sparse_convert.proofs.serial.triplets.convert_csr_coo.Goals as goal

pub coo_from_lists-requires : goal.coo_from_lists-requires
coo_from_lists-requires g c =
    let lists = c.in_ok-rows.ensures in
    let core = c.cs.ensures.core in
    rw (c.nrows.ensures, c.ncols.ensures, lists.lanes, lists.indices, lists.values, core)
    (parts_by_rows c.args.csr.now (rw core at lists.sound))

pub returns : goal.returns
returns g c =
    let lists = c.in_ok-rows.ensures in
    let core = c.cs.ensures.core in
    let m = c.args.csr.now in
    c.coo_from_lists.ensures
    ∙ rw (c.nrows.ensures, c.ncols.ensures, lists.lanes, lists.indices, lists.values, core)
    (ap (coo_of m.pattern.major_dim m.pattern.minor_dim)
    (zip-split _ _ _ (lane_triplets m) refl refl refl))
