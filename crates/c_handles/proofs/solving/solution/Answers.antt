use Rattle.std.proofs.Common.{◌∙◌}
use Rattle.c_arrays.specs.Arrays.{plain_by_values, ring64}
use Rattle.c_handles.proofs.solving.solution.Goals as goal

pub returns-clause-solved : goal.returns-clause-solved
returns-clause-solved c = c.in_ok-solve_part.ensures.solved ∙ (c.in_ok-x.ensures.plain
    ∙ (λ k. plain_by_values ring64 (c.in_ok-size.ensures.rows k) c.args.cols c.args.b.now))
