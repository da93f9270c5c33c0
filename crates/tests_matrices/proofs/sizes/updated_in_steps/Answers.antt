use Rattle.std.proofs.Common.{ap, ◌∙◌}
use Rattle.tests_matrices.proofs.sizes.updated_in_steps.Goals as goal

-- the product has its own entries
pub spmm_csr_prealloc_unchecked_counted-computed-requires-clause-covered :
    goal.spmm_csr_prealloc_unchecked_counted-computed-requires-clause-covered
spmm_csr_prealloc_unchecked_counted-computed-requires-clause-covered c =
    λ i j h. ap (λ m. m.has i j) c.in_ok-product.ensures ∙ h
