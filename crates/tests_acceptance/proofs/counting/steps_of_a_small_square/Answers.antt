use Rattle.std.proofs.Common.{◌≡◌, refl, arith}
use Rattle.nalgebra_sparse.specs.Raw.{nnz_of}
use Rattle.nalgebra_sparse.specs.ScalarProducts.{triples_of}
use Rattle.std.specs.Int.{w64}
use Rattle.nalgebra_sparse.specs.Numbers.{w64_number}
use Rattle.nalgebra_sparse.specs.Wrapping.{wrapping_ring, class_of}
use Rattle.tests_acceptance.proofs.CountedSquares.{small_covered}
use Rattle.tests_acceptance.proofs.counting.steps_of_a_small_square.Goals as goal

pub spmm_csr_prealloc_unchecked_counted-requires-clause-inner :
    goal.spmm_csr_prealloc_unchecked_counted-requires-clause-inner
spmm_csr_prealloc_unchecked_counted-requires-clause-inner c = rw c.in_ok-matrix.ensures.is refl

pub spmm_csr_prealloc_unchecked_counted-requires-clause-rows :
    goal.spmm_csr_prealloc_unchecked_counted-requires-clause-rows
spmm_csr_prealloc_unchecked_counted-requires-clause-rows c =
    rw (c.in_ok-matrix.ensures.is, c.in_ok-square.ensures.is) refl

pub spmm_csr_prealloc_unchecked_counted-requires-clause-cols :
    goal.spmm_csr_prealloc_unchecked_counted-requires-clause-cols
spmm_csr_prealloc_unchecked_counted-requires-clause-cols c =
    rw (c.in_ok-matrix.ensures.is, c.in_ok-square.ensures.is) refl

pub spmm_csr_prealloc_unchecked_counted-requires-clause-covered :
    goal.spmm_csr_prealloc_unchecked_counted-requires-clause-covered
spmm_csr_prealloc_unchecked_counted-requires-clause-covered c =
    let m = c.in_ok-matrix.ensures in
    let n = c.in_ok-square.ensures in
    rw (m.is, n.is)
    (small_covered (wrapping_ring w64) (λ x. class_of w64 (w64_number x)) m.a m.b m.c n.a n.b n.c)

pub returns-clause-least : goal.returns-clause-least
returns-clause-least c =
    let d = c.in_ok-matrix.matrix.pattern in
    let zero : c.new-steps.result ≡ 0 = c.new-steps.ensures in
    let triples : triples_of d d ≡ 4 = rw c.in_ok-matrix.ensures.is refl in
    let steps = c.in_ok-spmm_csr_prealloc_unchecked_counted.ensures.all_multiplied in
    omega arith

pub returns-clause-most : goal.returns-clause-most
returns-clause-most c =
    let d = c.in_ok-matrix.matrix.pattern in
    let zero : c.new-steps.result ≡ 0 = c.new-steps.ensures in
    let triples : triples_of d d ≡ 4 = rw c.in_ok-matrix.ensures.is refl in
    let factors : nnz_of d ≡ 3 = rw c.in_ok-matrix.ensures.is refl in
    let places : nnz_of c.in_ok-square.square.pattern ≡ 3 = rw c.in_ok-square.ensures.is refl in
    let steps = c.in_ok-spmm_csr_prealloc_unchecked_counted.ensures.no_more in
    omega arith
