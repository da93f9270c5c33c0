-- The errors of expressions, and the values of expressions in a ring.
use Rattle.std.proofs.Common.{◌≡◌, ◌⊎◌, ℕ, inl, inr, Result, Ok, Err, List, [], ◌∷◌, map, refl, sym, ap, subst, ◌∙◌, arith}
use Rattle.std.specs.Prelude.{IfOk, IfErr}
use Rattle.sparse_algebra.specs.Algebra.{CommRing}
use Rattle.sparse_algebra.specs.Integers.{element_of}
use Rattle.sparse_algebra.specs.Moduli.{mod_ring}
use Rattle.sparse_algebra.specs.Plain.{Plain}
use Rattle.sparse_algebra.specs.Whole.{whole_ring}
use Rattle.sparse_algebra.specs.declared.scalar.wide.W128.{W128}
use Rattle.sparse_compressed.specs.Compressed.{Compressed}
use Rattle.sparse_expr.specs.Value.{value_of}
use Rattle.sparse_expr.specs.declared.expr.Expr.{Expr}
use Rattle.sparse_expr.specs.declared.error.ExprError.{ExprError}
use Rattle.sparse_expr.specs.declared.error.ExprError.TheVariants as expression
use Rattle.mtxkit_texts.specs.declared.failure.Failure.TheVariants.{OutOfMemory}
use Rattle.mtxkit_eval.specs.Errors.{expression_fault}
use Rattle.mtxkit_eval.specs.Rings.{reduced_modulo}
use Rattle.mtxkit_eval.specs.Values.{exact_of, exact_value, image_in, HasNoResidues, HasValue}
use Rattle.mtxkit_eval.specs.Values.{IsExprFailure, IsInexact, IsReduced}
use Rattle.mtxkit_eval.specs.declared.error.EvalError.{EvalError}
use Rattle.mtxkit_eval.specs.declared.error.EvalError.TheVariants.{Failed, Expression, Wide, Unbounded}
use Rattle.mtxkit_eval.proofs.IntegerImages.{image-IsRingMap}
use Rattle.mtxkit_eval.proofs.ValueImages.{image, value-image}

-- what holds for a failed allocation, and for each error of an expression
pub faulted : (P : EvalError → Type 0) (Q : ExprError → Type 0) → P (Failed OutOfMemory)
    → ((e : ExprError) → Q e → P (Expression e)) → (e : ExprError)
    → (e ≡ expression.OutOfMemory) ⊎ Q e → P (expression_fault e)
faulted P Q memory other e why = elim why [
  | inl is ↦ subst (λ x. P (expression_fault x)) (sym is) memory
  | inr held ↦ by_kind e held
]
  where
    by_kind : (e : ExprError) → Q e → P (expression_fault e)
    by_kind expression.OutOfMemory held = memory
    by_kind expression.BadWord held = other expression.BadWord held
    by_kind expression.MissingOperand held = other expression.MissingOperand held
    by_kind expression.LeftOver held = other expression.LeftOver held
    by_kind expression.NoSuchInput held = other expression.NoSuchInput held
    by_kind expression.Shape held = other expression.Shape held
    by_kind (expression.Input number kind) held = other (expression.Input number kind) held
    by_kind (expression.Write kind) held = other (expression.Write kind) held

-- ---- values in a ring

module _ (R : CommRing) where
  image-ok : (a : Result (Plain whole_ring) ExprError) (b : Plain R)
      → image whole_ring R (element_of R) (image-IsRingMap R) a ≡ Ok b
      → (z : Plain whole_ring) × (a ≡ Ok z) × (image_in R z ≡ b)
  image-ok (Ok z) b e = let same : image_in R z ≡ b = cc in (z, refl, same)
  image-ok (Err x) b e = absurd (grind arith)

  image-err : (a : Result (Plain whole_ring) ExprError) (x : ExprError)
      → image whole_ring R (element_of R) (image-IsRingMap R) a ≡ Err x → a ≡ Err x
  image-err (Ok z) x e = absurd (grind arith)
  image-err (Err y) x e = let same : y ≡ x = cc in ap Err same

  -- the images of the inputs give the image of the value
  module _ (ms : List (Compressed W128)) (expr : Expr) (ps : List (Plain R))
      (images : ps ≡ map (λ m. image_in R (exact_of m)) ms) where
    in-ring : value_of R ps expr
        ≡ image whole_ring R (element_of R) (image-IsRingMap R) (exact_value ms expr)
    in-ring = ap (λ xs. value_of R xs expr) (images ∙ twice ms)
        ∙ value-image whole_ring R (element_of R) (image-IsRingMap R) (map exact_of ms) expr
      where
        twice : (xs : List (Compressed W128))
            → map (λ m. image_in R (exact_of m)) xs ≡ map (image_in R) (map exact_of xs)
        twice [] = refl
        twice (x ∷ xs) = ap (λ ys. image_in R (exact_of x) ∷ ys) (twice xs)

    pub value-found : (b : Plain R) → value_of R ps expr ≡ Ok b
        → (z : Plain whole_ring) × (exact_value ms expr ≡ Ok z) × (image_in R z ≡ b)
    value-found b is = image-ok (exact_value ms expr) b (sym in-ring ∙ is)

    pub value-refused : (x : ExprError) → value_of R ps expr ≡ Err x → exact_value ms expr ≡ Err x
    value-refused x is = image-err (exact_value ms expr) x (sym in-ring ∙ is)

-- ---- values modulo a number

pub reduced-result : (m : ℕ) (ms : List (Compressed W128)) (expr : Expr)
    (result : Result (Compressed W128) EvalError)
    → IfOk result (HasValue (mod_ring m) (reduced_modulo m) (exact_value ms expr))
    → IfErr result (IsExprFailure (exact_value ms expr)) → IsReduced m ms expr result
reduced-result m ms expr (Ok value) found refused = found
reduced-result m ms expr (Err (Failed failure)) found refused =
    subst (λ f. HasNoResidues m ms expr (Failed f)) (sym refused) refl
reduced-result m ms expr (Err (Expression error)) found refused = refused
reduced-result m ms expr (Err (Wide row col)) found refused = refused
reduced-result m ms expr (Err Unbounded) found refused = refused

-- ---- exact values

pub inexact : (ms : List (Compressed W128)) (expr : Expr) (error : EvalError)
    → IsExprFailure (exact_value ms expr) error → IsInexact ms expr error
inexact ms expr (Failed failure) why = why
inexact ms expr (Expression error) why = why
inexact ms expr (Wide row col) why = absurd why
inexact ms expr Unbounded why = absurd why
