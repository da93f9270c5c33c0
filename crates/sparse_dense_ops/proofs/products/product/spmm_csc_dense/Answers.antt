use Rattle.sparse_dense_ops.proofs.products.product.spmm_csc_dense.Goals as goal

pub returns-in-Transpose-clause-updated : goal.returns-in-Transpose-clause-updated
returns-in-Transpose-clause-updated g c =
    rw c.in-Transpose.is (rw c.cs-in-Transpose.ensures.core at
    c.update-in-Transpose.ensures.updated)

pub returns-in-NoOp-clause-updated : goal.returns-in-NoOp-clause-updated
returns-in-NoOp-clause-updated g c = rw c.in-NoOp.is
    (rw c.cs.ensures.core at c.update.ensures.updated)
