use Rattle.std.proofs.Common.{◌≡◌, inl, ap, subst, ◌∙◌, refl, rules, to_z, of_z}
use Rattle.std.specs.Int.{w32}
use Rattle.sparse_pattern.specs.Raw.{raw_of}
use Rattle.sparse_products.specs.Products.{IsProductOf}
use Rattle.c_arrays.specs.declared.refusal.Refusal.TheVariants.{OutOfMemory}
use Rattle.sparse_c.proofs.operations.products.nalgebra_sparse_multiply_places.Goals as goal

pub returns-in-Ok-spmm_csr_pattern-clause-counted : goal.returns-in-Ok-spmm_csr_pattern-clause-counted
returns-in-Ok-spmm_csr_pattern-clause-counted c = λ _.
    let p = c.in-Ok-spmm_csr_pattern.product in
    let b = raw_of c.args.inner c.args.cols c.args.b_offsets.now c.args.b_indices.now in
    record {
      product = p;
      valid = c.in-Ok-spmm_csr_pattern.ensures.valid;
      rows = c.in-Ok-spmm_csr_pattern.ensures.major ∙ ap (λ d. d.major_dim) c.in-Ok.ensures.is;
      cols = c.in-Ok-spmm_csr_pattern.ensures.minor
          ∙ ap (λ d. d.minor_dim) c.in-Ok-pattern_of.ensures.is;
      entries = subst (λ d. IsProductOf p d b) c.in-Ok.ensures.is
          (subst (IsProductOf p c.in-Ok.a) c.in-Ok-pattern_of.ensures.is
          c.in-Ok-spmm_csr_pattern.ensures.entries);
      count = c.nnz.ensures;
    }

pub returns-clause-refused : goal.returns-clause-refused
returns-clause-refused c = λ _.
    let status = c.status-in-Err-spmm_csr_pattern.result in
    let same : to_z w32 (of_z w32 status) ≡ status = search rules in
    (OutOfMemory, same ∙ c.status-in-Err-spmm_csr_pattern.ensures, inl refl)
