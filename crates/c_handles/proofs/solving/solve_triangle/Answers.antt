use Rattle.c_handles.proofs.Triangles.{SolvesTriangle-dense}
use Rattle.c_handles.proofs.solving.solve_triangle.Goals as goal

pub returns-clause-solved : goal.returns-clause-solved
returns-clause-solved c =
    SolvesTriangle-dense c.args.a.now.value _ _ c.in_ok-a.ensures.value c.deref.ensures c.args.triangle
    c.args.transposed c.in_ok-x.x c.args.cols c.args.values.now c.put_dense.new.values
    c.in_ok-x.ensures.square c.in_ok-x.ensures.regular c.in_ok-x.ensures.rows c.in_ok-x.ensures.cols c.in_ok-x.ensures.sized c.in_ok-x.ensures.solved
    c.put_dense.ensures
