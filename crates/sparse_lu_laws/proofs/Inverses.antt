-- With as many pivots as rows and columns, a right inverse is a left inverse: a (x a) = (a x) a = a 1, and a cancels.
use Rattle.std.proofs.Common.{◌≡◌, ◌≢◌, ℕ, ◌<◌, List, ap, sym, ◌∙◌, refl, arith}
use Rattle.std.specs.Prelude.{nat_eq, nat_lt, ◌&&◌}
use Rattle.std.proofs.lemmas.Bool.Decides.{Decides-eqb, Decides-ltb, nat_tests}
use Rattle.sparse_algebra.proofs.Cases.{and_both}
use Rattle.sparse_algebra.specs.Algebra.{CommRing}
use Rattle.sparse_algebra.specs.Plain.{Plain, plain_identity, plain_product}
use Rattle.sparse_algebra.proofs.RingLemmas.{mul_zero}
use Rattle.sparse_algebra.proofs.SumLemmas.{where_yes, where_no, product_assoc}
use Rattle.sparse_dense_ops.proofs.RingSteps.{mul_off}
use Rattle.sparse_dense_ops.specs.Solutions.{HasSameValues}
use Rattle.sparse_lu_laws.specs.Lu.{IsLu}
use Rattle.sparse_lu_laws.proofs.Sums.{sum_below-single}
use Rattle.sparse_lu_laws.proofs.FullRank.{full_rank_cancels}

module _ (R : CommRing) where
  on_diagonal : (n i : ℕ) → i < n → (plain_identity R n).value i i ≡ R.one
  on_diagonal n i less = where_yes R (nat_eq i i && nat_lt i n) R.one
      (and_both _ _ ((Decides-eqb i i).1 refl) ((Decides-ltb i n).1 less))

  off_diagonal : (n i k : ℕ) → k ≢ i → (plain_identity R n).value i k ≡ R.zero
  off_diagonal n i k apart = where_no R (nat_eq i k && nat_lt i n) R.one (grind (arith, nat_tests))

  module _ {T : Type 0} (f : T → R.Carrier) {a l u : Plain R} {p q : List ℕ}
      (lu : IsLu R f a l u p q a.cols) (x : Plain R) (square : a.rows ≡ a.cols)
      (cols : x.cols ≡ a.cols)
      (right : HasSameValues R a.cols a.cols (plain_product R a x) (plain_identity R a.cols)) where
    -- a (x a) = a 1
    both_products : HasSameValues R a.rows a.cols (plain_product R a (plain_product R x a))
        (plain_product R a (plain_identity R a.cols))
    both_products i j row col =
        let at : i < a.cols = omega arith in
        sym (product_assoc R a.cols x.cols (a.value i) x.value (λ t. a.value t j))
        ∙ sum_below-single R x.cols i _ (omega arith)
        (λ t lt other. mul_off R _ (a.value t j) (right i t at (omega arith)
        ∙ off_diagonal a.cols i t other))
        ∙ ap (λ c. R.mul c (a.value i j)) (right i i at at ∙ on_diagonal a.cols i at)
        ∙ R.laws.mul_comm R.one (a.value i j)
        ∙ sym (sum_below-single R a.cols j _ col
        (λ t lt other. ap (R.mul (a.value i t)) (off_diagonal a.cols t j (λ e. other (sym e)))
        ∙ mul_zero R (a.value i t))
        ∙ ap (R.mul (a.value i j)) (on_diagonal a.cols j col))

    pub left_inverse : HasSameValues R a.cols a.cols (plain_product R x a)
        (plain_identity R a.cols)
    left_inverse = full_rank_cancels R f lu a.cols (plain_product R x a) (plain_identity R a.cols)
        both_products
