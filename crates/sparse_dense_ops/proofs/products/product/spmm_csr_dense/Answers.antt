use Rattle.sparse_dense_ops.proofs.products.product.spmm_csr_dense.Goals as goal

pub returns-in-NoOp-clause-updated : goal.returns-in-NoOp-clause-updated
returns-in-NoOp-clause-updated g c = rw c.in-NoOp.is
    (rw c.cs.ensures.core at c.update.ensures.updated)

pub update-requires-in-Transpose-clause-inner : goal.update-requires-in-Transpose-clause-inner
update-requires-in-Transpose-clause-inner g c =
    rw c.cs-in-Transpose.ensures.core (rw c.in-Transpose.is at c.requires.inner)

pub update-requires-in-Transpose-clause-rows : goal.update-requires-in-Transpose-clause-rows
update-requires-in-Transpose-clause-rows g c =
    rw c.cs-in-Transpose.ensures.core (rw c.in-Transpose.is at c.requires.rows)

pub returns-in-Transpose-clause-updated : goal.returns-in-Transpose-clause-updated
returns-in-Transpose-clause-updated g c =
    rw c.in-Transpose.is (rw c.cs-in-Transpose.ensures.core at
    c.update-in-Transpose.ensures.updated)
