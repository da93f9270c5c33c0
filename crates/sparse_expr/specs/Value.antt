-- The value of an expression over plain matrices, or its error.
use Rattle.std.specs.Prelude.{◌≡◌, ◌⊎◌, ℕ, zero, suc, nat_eq, ◌&&◌, if◌then◌else◌, List, Result, Ok}
use Rattle.std.specs.Prelude.{Err, Option, Some, None, slice_get, Bool}
use Rattle.sparse_algebra.specs.Algebra.{CommRing}
use Rattle.sparse_algebra.specs.Plain.{Plain, plain_sum, plain_difference, plain_product}
use Rattle.sparse_algebra.specs.Plain.{plain_transpose, plain_negation}
use Rattle.sparse_expr.specs.declared.expr.Expr.{Expr}
use Rattle.sparse_expr.specs.declared.expr.Expr.TheVariants as tree
use Rattle.sparse_expr.specs.declared.error.ExprError.{ExprError}
use Rattle.sparse_expr.specs.declared.error.ExprError.TheVariants.{NoSuchInput, Shape, OutOfMemory}

module _ (R : CommRing) where
  abbrev pub found : Option (Plain R) → Result (Plain R) ExprError
  found (Some a) = Ok a
  found None = Err NoSuchInput

  -- the n-th input, counted from 1
  abbrev pub input_at : List (Plain R) → ℕ → Result (Plain R) ExprError
  input_at inputs zero = Err NoSuchInput
  input_at inputs (suc n) = found (slice_get inputs n)

  -- whether the shapes are equal
  abbrev pub same_sizes : Plain R → Plain R → Bool
  same_sizes a b = nat_eq a.rows b.rows && nat_eq a.cols b.cols

  -- the sum, if the shapes are equal
  abbrev pub sum_of : Plain R → Plain R → Result (Plain R) ExprError
  sum_of a b = if same_sizes a b then Ok (plain_sum R a b) else Err Shape

  -- the difference, if the shapes are equal
  abbrev pub difference_of : Plain R → Plain R → Result (Plain R) ExprError
  difference_of a b = if same_sizes a b then Ok (plain_difference R a b) else Err Shape

  -- the product, if the inner dimensions are equal
  abbrev pub product_of : Plain R → Plain R → Result (Plain R) ExprError
  product_of a b = if nat_eq a.cols b.rows then Ok (plain_product R a b) else Err Shape

  -- the left operand's error, else the right one's, else the result of `make`
  abbrev pub both : (Plain R → Plain R → Result (Plain R) ExprError) → Result (Plain R) ExprError
      → Result (Plain R) ExprError → Result (Plain R) ExprError
  both make (Err e) y = Err e
  both make (Ok a) (Err e) = Err e
  both make (Ok a) (Ok b) = make a b

  -- the operand's error, else the result of `make`
  abbrev pub one : (Plain R → Plain R) → Result (Plain R) ExprError → Result (Plain R) ExprError
  one make (Err e) = Err e
  one make (Ok a) = Ok (make a)

  -- the value of an expression, or its error
  abbrev pub value_of : List (Plain R) → Expr → Result (Plain R) ExprError
  value_of inputs (tree.Input n) = input_at inputs n
  value_of inputs (tree.Add' p a q b) = both sum_of (value_of inputs a) (value_of inputs b)
  value_of inputs (tree.Sub' p a q b) = both difference_of (value_of inputs a) (value_of inputs b)
  value_of inputs (tree.Mul' p a q b) = both product_of (value_of inputs a) (value_of inputs b)
  value_of inputs (tree.Transpose' p a) = one (plain_transpose R) (value_of inputs a)
  value_of inputs (tree.Neg' p a) = one (plain_negation R) (value_of inputs a)

  -- the result represents the value, is its error, or is `OutOfMemory`
  abbrev pub Meets : {M : Type 0} → (M → Plain R) → Result (Plain R) ExprError → Result M ExprError
      → Type 0
  Meets plain a (Ok m) = a ≡ Ok (plain m)
  Meets plain a (Err e) = (e ≡ OutOfMemory) ⊎ (a ≡ Err e)
