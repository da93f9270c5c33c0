-- Inverses of dual numbers and of pairs.
use Rattle.std.proofs.Common.{◌≡◌, sym, ap, ◌∙◌}
use Rattle.sparse_algebra.specs.Algebra.{CommRing}
use Rattle.sparse_algebra.proofs.Products.{mul_neg, mul_swap}
use Rattle.sparse_rings.specs.DualRing.{dual_ring}
use Rattle.sparse_rings.specs.InnerPairs.{same_pair}

module _ (R : CommRing) where
  -- if a t = 1, then (a, b) (t, -(b (t t))) = 1
  pub dual_inverse : (a b t : R.Carrier) → R.mul a t ≡ R.one
      → (dual_ring R).mul (a, b) (t, R.neg (R.mul b (R.mul t t))) ≡ (dual_ring R).one
  dual_inverse a b t e =
      let one_left : R.mul a (R.mul b (R.mul t t)) ≡ R.mul b t =
      mul_swap R a b (R.mul t t)
      ∙ ap (R.mul b) (sym (R.laws.mul_assoc a t t) ∙ ap (λ x. R.mul x t) e
      ∙ R.laws.mul_comm R.one t ∙ R.laws.mul_one t) in
      let cancels : R.add (R.mul a (R.neg (R.mul b (R.mul t t)))) (R.mul b t) ≡ R.zero =
      ap (λ x. R.add x (R.mul b t))
      (mul_neg R a (R.mul b (R.mul t t)) ∙ ap R.neg one_left)
      ∙ R.laws.add_comm (R.neg (R.mul b t)) (R.mul b t) ∙ R.laws.add_neg (R.mul b t) in
      same_pair _ _ e cancels
