use Rattle.std.proofs.Common.{◌∙◌}
use Rattle.sparse_algebra.specs.Plain.{plain_product}
use Rattle.sparse_algebra.specs.WrappingValues.{w64_value}
use Rattle.sparse_coo_dense.specs.DensePlain.{plain_full}
use Rattle.c_arrays.specs.Arrays.{plain_by_values, ring64}
use Rattle.sparse_compressed.specs.PlainOfLanes.{plain_of_rows}
use Rattle.c_handles.proofs.dense.product_of.Goals as goal

pub returns-clause-plain : goal.returns-clause-plain
returns-clause-plain c = c.in_ok-mul_csr_dense.ensures ∙ (λ k. plain_full ring64
    (plain_product ring64 (plain_of_rows ring64 w64_value c.args.a.now)
    ((c.in_ok-b.ensures.plain ∙ (λ i. plain_by_values ring64 (c.ncols.ensures i) c.args.cols
    c.args.b.now)) k)))
