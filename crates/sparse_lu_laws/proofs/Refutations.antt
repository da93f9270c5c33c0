-- A refutation excludes every solution.
use Rattle.std.proofs.Common.{ap, sym, ◌∙◌, arith}
use Rattle.sparse_algebra.specs.Algebra.{CommRing}
use Rattle.sparse_algebra.specs.Plain.{Plain}
use Rattle.sparse_algebra.proofs.SumLemmas.{sum_below-none, sum_below-same, product_assoc}
use Rattle.sparse_dense_ops.proofs.RingSteps.{mul_off}
use Rattle.sparse_dense_ops.specs.Solutions.{IsSolution}
use Rattle.sparse_lu_laws.specs.Refutations.{IsRefutation}

module _ (R : CommRing) where
  -- y b = y (a x) = (y a) x = 0
  pub refutation-solution : (a b x y : Plain R) → IsRefutation R a b y → IsSolution R a x b → ⊥
  refutation-solution a b x y refutation solution =
      let j = refutation.nonzero.0 in
      refutation.nonzero.2 (sum_below-same R y.cols _ _
      (λ k _. ap (R.mul (y.value 0 k)) (ap (λ m. m.value k j) (sym solution)))
      ∙ sym (product_assoc R y.cols a.cols (λ k. y.value 0 k) a.value (λ k. x.value k j))
      ∙ sum_below-none R a.cols _ (λ k less. mul_off R _ (x.value k j)
      (refutation.null 0 k (omega (arith, refutation.row)) less)))
