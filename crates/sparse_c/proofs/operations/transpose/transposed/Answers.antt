use Rattle.std.proofs.Common.{ap, ◌∙◌}
use Rattle.sparse_algebra.specs.Plain.{plain_transpose}
use Rattle.c_arrays.specs.Arrays.{ring64}
use Rattle.sparse_c.proofs.operations.transpose.transposed.Goals as goal

pub returns-clause-plain : goal.returns-clause-plain
returns-clause-plain c = c.in_ok-transposed_csr.ensures
    ∙ ap (plain_transpose ring64) c.in_ok-a.ensures.plain
