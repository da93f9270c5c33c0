use Rattle.std.proofs.Common.{refl}
use Rattle.sparse_coo_dense.specs.DensePlain.{plain_of_dense}
use Rattle.tests_matrices.proofs.callers.solve_known.Goals as goal

pub returns : goal.returns
returns g c = c.spsolve_csc_lower_triangular.ensures.above c.args.l.now
    (plain_of_dense g.T.Ring.ring g.T.Ring.value c.args.known.now) refl c.requires.known
