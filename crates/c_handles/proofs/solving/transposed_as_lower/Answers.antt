use Rattle.c_handles.proofs.Triangles.{triangle_of-transpose}
use Rattle.c_handles.proofs.solving.transposed_as_lower.Goals as goal

pub returns-in-Upper : goal.returns-in-Upper
returns-in-Upper c = λ a. rw c.in-Upper.is (triangle_of-transpose c.args.transposed a)
