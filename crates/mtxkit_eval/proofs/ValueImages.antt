-- The value of an expression over the images of matrices under a ring homomorphism.
use Rattle.std.proofs.Common.{◌≡◌, ℕ, zero, suc, Bool, true, false, List, [], ◌∷◌, map, Result, Ok, Err}
use Rattle.std.proofs.Common.{refl, sym, ap, ◌∙◌}
use Rattle.std.specs.Prelude.{Option, slice_get, nat_eq, ◌&&◌, if◌then◌else◌}
use Rattle.sparse_algebra.specs.Algebra.{CommRing}
use Rattle.sparse_algebra.specs.Plain.{Plain}
use Rattle.sparse_algebra.specs.Plain.{plain_transpose, plain_negation}
use Rattle.sparse_algebra.specs.RingMaps.{IsRingMap, plain_map}
use Rattle.sparse_algebra.proofs.RingMapLemmas.{map-sum, map-negation, map-difference, map-product}
use Rattle.sparse_expr.specs.Value.{both, one, found, input_at, sum_of, difference_of, product_of}
use Rattle.sparse_expr.specs.Value.{value_of}
use Rattle.sparse_expr.specs.declared.expr.Expr.{Expr}
use Rattle.sparse_expr.specs.declared.expr.Expr.TheVariants as tree
use Rattle.sparse_expr.specs.declared.error.ExprError.{ExprError}
use Rattle.sparse_expr.specs.declared.error.ExprError.TheVariants.{Shape}

module _ (R S : CommRing) (h : R.Carrier → S.Carrier) (is : IsRingMap R S h) where
  -- the image of a value, or the same error
  abbrev pub image : Result (Plain R) ExprError → Result (Plain S) ExprError
  image (Ok a) = Ok (plain_map h a)
  image (Err e) = Err e

  found-image : (a : Option (Plain R)) (b : Option (Plain S)) → Type 0
  found-image a b = found S b ≡ image (found R a)

  at-image : (ps : List (Plain R)) (n : ℕ)
      → found S (slice_get (map (plain_map h) ps) n) ≡ image (found R (slice_get ps n))
  at-image [] n = refl
  at-image (p ∷ ps) zero = refl
  at-image (p ∷ ps) (suc n) = at-image ps n

  input-image : (ps : List (Plain R)) (n : ℕ)
      → input_at S (map (plain_map h) ps) n ≡ image (input_at R ps n)
  input-image ps zero = refl
  input-image ps (suc n) = at-image ps n

  -- a test, and the image of its result
  tested : (b : Bool) (x : Plain R) (y : Plain S) → y ≡ plain_map h x
      → (if b then Ok y else Err Shape) ≡ image (if b then Ok x else Err Shape)
  tested true x y e = ap Ok e
  tested false x y e = refl

  both-image : (make : Plain R → Plain R → Result (Plain R) ExprError)
      (made : Plain S → Plain S → Result (Plain S) ExprError)
      → ((a b : Plain R) → made (plain_map h a) (plain_map h b) ≡ image (make a b))
      → (x y : Result (Plain R) ExprError)
      → both S made (image x) (image y) ≡ image (both R make x y)
  both-image make made same (Err e) y = refl
  both-image make made same (Ok a) (Err e) = refl
  both-image make made same (Ok a) (Ok b) = same a b

  one-image : (make : Plain R → Plain R) (made : Plain S → Plain S)
      → ((a : Plain R) → made (plain_map h a) ≡ plain_map h (make a))
      → (x : Result (Plain R) ExprError) → one S made (image x) ≡ image (one R make x)
  one-image make made same (Err e) = refl
  one-image make made same (Ok a) = ap Ok (same a)

  sum-image : (a b : Plain R)
      → sum_of S (plain_map h a) (plain_map h b) ≡ image (sum_of R a b)
  sum-image a b = tested (nat_eq a.rows b.rows && nat_eq a.cols b.cols) _ _ (sym (map-sum R S h is a b))

  difference-image : (a b : Plain R)
      → difference_of S (plain_map h a) (plain_map h b) ≡ image (difference_of R a b)
  difference-image a b = tested (nat_eq a.rows b.rows && nat_eq a.cols b.cols) _ _
      (sym (map-difference R S h is a b))

  product-image : (a b : Plain R)
      → product_of S (plain_map h a) (plain_map h b) ≡ image (product_of R a b)
  product-image a b = tested (nat_eq a.cols b.rows) _ _ (sym (map-product R S h is a b))

  pub value-image : (ps : List (Plain R)) (expr : Expr)
      → value_of S (map (plain_map h) ps) expr ≡ image (value_of R ps expr)
  value-image ps (tree.Input n) = input-image ps n
  value-image ps (tree.Add' p a q b) =
      ap (λ x. both S (sum_of S) x (value_of S (map (plain_map h) ps) b)) (value-image ps a)
      ∙ ap (both S (sum_of S) (image (value_of R ps a))) (value-image ps b)
      ∙ both-image (sum_of R) (sum_of S) sum-image (value_of R ps a) (value_of R ps b)
  value-image ps (tree.Sub' p a q b) =
      ap (λ x. both S (difference_of S) x (value_of S (map (plain_map h) ps) b)) (value-image ps a)
      ∙ ap (both S (difference_of S) (image (value_of R ps a))) (value-image ps b)
      ∙ both-image (difference_of R) (difference_of S) difference-image (value_of R ps a)
      (value_of R ps b)
  value-image ps (tree.Mul' p a q b) =
      ap (λ x. both S (product_of S) x (value_of S (map (plain_map h) ps) b)) (value-image ps a)
      ∙ ap (both S (product_of S) (image (value_of R ps a))) (value-image ps b)
      ∙ both-image (product_of R) (product_of S) product-image (value_of R ps a) (value_of R ps b)
  value-image ps (tree.Transpose' p a) =
      ap (one S (plain_transpose S)) (value-image ps a)
      ∙ one-image (plain_transpose R) (plain_transpose S) (λ x. refl) (value_of R ps a)
  value-image ps (tree.Neg' p a) =
      ap (one S (plain_negation S)) (value-image ps a)
      ∙ one-image (plain_negation R) (plain_negation S) (λ x. sym (map-negation R S h is x))
      (value_of R ps a)
