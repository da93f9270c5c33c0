use Rattle.sparse_coo_dense.specs.CooPlain.{plain_of_coo}
use Rattle.sparse_coo_dense.specs.DensePlain.{plain_of_dense}
use Rattle.mtxkit_matrices.proofs.SymmetricSystems.{solution_same}
use Rattle.mtxkit_matrices.proofs.systems.solve_listed.Goals as goal

pub returns-in_ok-listed-in-Ok-clause-solved : goal.returns-in_ok-listed-in-Ok-clause-solved
returns-in_ok-listed-in-Ok-clause-solved g c =
    let R = g.T.Ring.ring in
    let f = g.T.Ring.value in
    solution_same R (plain_of_coo R f c.args.a.now) (plain_of_dense R f c.in-Ok.x)
    (plain_of_coo R f c.in_ok-listed-in-Ok.field-0) (plain_of_coo R f c.args.b.now)
    c.args.b.now.nrows c.args.b.now.ncols c.in_ok-listed-in-Ok.ensures.values c.in-Ok.ensures.solved
