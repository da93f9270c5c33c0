use Rattle.std.proofs.Common.{ap, ◌∙◌}
use Rattle.sparse_algebra.specs.Plain.{plain_transpose}
use Rattle.sparse_algebra.specs.WrappingValues.{w64_value}
use Rattle.c_arrays.specs.Arrays.{ring64}
use Rattle.sparse_compressed.specs.PlainOfLanes.{plain_of_cols}
use Rattle.c_handles.proofs.solving.columns_of.Goals as goal

pub returns-in_ok-transposed_csr-in-Lower : goal.returns-in_ok-transposed_csr-in-Lower
returns-in_ok-transposed_csr-in-Lower c = rw c.in-Lower.is
    (ap (plain_of_cols ring64 w64_value) c.transpose_as_csc.ensures
    ∙ ap (plain_transpose ring64) c.in_ok-transposed_csr-in-Lower.ensures)
