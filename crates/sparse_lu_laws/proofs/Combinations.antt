-- The combination of a kernel's columns is unique.
use Rattle.std.proofs.Common.{◌≡◌, ℕ, List, length, get_or, ap, sym, ◌∙◌, refl, arith}
use Rattle.std.specs.Prelude.{nat_eq, nat_lt}
use Rattle.std.proofs.lemmas.Bool.Decides.{Decides-eqb, Decides-ltb}
use Rattle.sparse_algebra.proofs.Cases.{nat_eq_no}
use Rattle.sparse_algebra.specs.Algebra.{CommRing}
use Rattle.sparse_algebra.specs.Plain.{Plain, plain_product}
use Rattle.sparse_algebra.proofs.SumLemmas.{where_yes, where_no}
use Rattle.sparse_dense_ops.proofs.RingSteps.{mul_off}
use Rattle.sparse_dense_ops.specs.Solutions.{HasSameValues}
use Rattle.sparse_lu_laws.specs.Kernels.{IsKernel, plain_rows_at}
use Rattle.sparse_lu_laws.proofs.Sums.{sum_below-single}

module _ (R : CommRing) where
  pub kernel_combination : (a k x y : Plain R) (free : List ℕ) → IsKernel R a k free
      → HasSameValues R a.cols x.cols (plain_product R k y) x
      → HasSameValues R (length free) x.cols y (plain_rows_at R free x)
  kernel_combination a k x y free kernel same s j less inside =
      let row = get_or free s 0 in
      let one : k.value row s ≡ R.one = kernel.unit s s less less
      ∙ where_yes R (nat_eq s s) R.one ((Decides-eqb s s).1 refl) in
      sym (R.laws.mul_one (y.value s j)) ∙ R.laws.mul_comm (y.value s j) R.one
      ∙ ap (λ c. R.mul c (y.value s j)) (sym one)
      ∙ sym (sum_below-single R k.cols s (λ t. R.mul (k.value row t) (y.value t j))
      (omega (arith, kernel.cols))
      (λ t lt other. mul_off R (k.value row t) (y.value t j)
      (kernel.unit s t less (omega (arith, kernel.cols))
      ∙ where_no R (nat_eq s t) R.one (nat_eq_no s t (λ e. other (sym e))))))
      ∙ same row j (kernel.inside s less) inside
      ∙ sym (where_yes R (nat_lt s (length free)) (x.value row j)
      ((Decides-ltb s (length free)).1 less))
