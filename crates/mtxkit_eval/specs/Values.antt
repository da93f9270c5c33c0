-- The value of an expression over the integers of matrices.
use Rattle.std.specs.Prelude.{◌≡◌, ◌≤◌, ◌^◌, ℕ, ℤ, List, ◌∷◌, ◌++◌, All, map, Result, Ok, Err}
use Rattle.std.specs.Int.{w64}
use Rattle.std.specs.Int.RustNames.{FitsSigned}
use Rattle.sparse_algebra.specs.Algebra.{CommRing}
use Rattle.sparse_algebra.specs.Integers.{element_of}
use Rattle.sparse_algebra.specs.Moduli.{mod_ring}
use Rattle.sparse_algebra.specs.Plain.{Plain, row_order}
use Rattle.sparse_algebra.specs.RingMaps.{plain_map}
use Rattle.sparse_algebra.specs.Whole.{whole_ring}
use Rattle.sparse_algebra.specs.WrappingValues.{w128_number}
use Rattle.sparse_algebra.specs.declared.scalar.wide.W128.{W128}
use Rattle.sparse_compressed.specs.Compressed.{Compressed, IsSound}
use Rattle.sparse_compressed.specs.PlainOfLanes.{plain_of_rows}
use Rattle.sparse_expr.specs.Value.{value_of}
use Rattle.sparse_expr.specs.declared.expr.Expr.{Expr}
use Rattle.sparse_expr.specs.declared.error.ExprError.{ExprError}
use Rattle.mtxkit_texts.specs.declared.failure.Failure.TheVariants.{OutOfMemory, Modulus}
use Rattle.mtxkit_eval.specs.Extents.{extent_of, matrix_extent}
use Rattle.mtxkit_eval.specs.Moduli.{moduli, IsNoneOf}
use Rattle.mtxkit_eval.specs.Rings.{reduced_modulo}
use Rattle.mtxkit_eval.specs.declared.error.EvalError.{EvalError}
use Rattle.mtxkit_eval.specs.declared.error.EvalError.TheVariants.{Failed, Expression, Wide}
use Rattle.mtxkit_eval.specs.declared.error.EvalError.TheVariants.{Unbounded}

-- the integers of a matrix
abbrev pub exact_of : Compressed W128 → Plain whole_ring
exact_of m = plain_of_rows whole_ring w128_number m

-- the value of an expression over the integers of matrices, or its error
abbrev pub exact_value : List (Compressed W128) → Expr → Result (Plain whole_ring) ExprError
exact_value ms expr = value_of whole_ring (map exact_of ms) expr

-- ---- images in a ring

-- the image of each integer in a ring
abbrev pub image_in : (R : CommRing) → Plain whole_ring → Plain R
image_in R z = plain_map (element_of R) z

-- the integers of the matrix are reduced, and have the same images as those of z
pub record HasImages (R : CommRing) (reduce : ℤ → ℤ) (z : Plain whole_ring) (m : Compressed W128)
    : Type 0 where
  pub sound : IsSound m
  pub images : image_in R (exact_of m) ≡ image_in R z
  pub reduced : All (λ v. reduce (w128_number v) ≡ w128_number v) m.values

-- the same for a value, if there is one
pub record HasValue (R : CommRing) (reduce : ℤ → ℤ) (a : Result (Plain whole_ring) ExprError)
    (m : Compressed W128) : Type 0 where
  pub value : Plain whole_ring
  pub is : a ≡ Ok value
  pub images : HasImages R reduce value m

-- an allocation failed, or the expression has this error
abbrev pub IsExprFailure : Result (Plain whole_ring) ExprError → EvalError → Type 0
IsExprFailure a (Failed failure) = failure ≡ OutOfMemory
IsExprFailure a (Expression error) = a ≡ Err error
IsExprFailure a error = ⊥

-- ---- exact values

-- the entry at this row and column is the first one, row by row, that does not fit in 64 bits
pub record IsFirstWide (z : Plain whole_ring) (row col : ℕ) : Type 0 where
  pub before : List (ℕ × ℕ × ℤ)
  pub value : ℤ
  pub after : List (ℕ × ℕ × ℤ)
  pub split : row_order whole_ring z ≡ before ++ (row, col, value) ∷ after
  pub narrow : All (λ t. FitsSigned w64 t.2) before
  pub wide : FitsSigned w64 value → ⊥

-- the matrix has the integers of the value, and they fit in 64 bits
pub record HasExactValue (a : Result (Plain whole_ring) ExprError) (m : Compressed W128) : Type 0
  where
    pub exact : a ≡ Ok (exact_of m)
    pub narrow : All (λ t. FitsSigned w64 t.2) (row_order whole_ring (exact_of m))

-- the value has an entry that does not fit in 64 bits, the first of which is here
pub record HasWideValue (a : Result (Plain whole_ring) ExprError) (row col : ℕ) : Type 0 where
  pub value : Plain whole_ring
  pub is : a ≡ Ok value
  pub first : IsFirstWide value row col

-- the expression has a value, and the bound on its magnitudes does not fit in 128 bits with a sign
pub record IsUnbounded (ms : List (Compressed W128)) (expr : Expr) : Type 0 where
  pub value : Plain whole_ring
  pub is : exact_value ms expr ≡ Ok value
  pub bound : 2 ^ 127 ≤ (extent_of (map matrix_extent ms) expr).largest

-- why there is no exact value of 64 bits
abbrev pub IsInexact : List (Compressed W128) → Expr → EvalError → Type 0
IsInexact ms expr (Wide row col) = HasWideValue (exact_value ms expr) row col
IsInexact ms expr Unbounded = IsUnbounded ms expr
IsInexact ms expr error = IsExprFailure (exact_value ms expr) error

-- ---- values modulo a number

-- why there is no value modulo m
abbrev pub HasNoResidues : ℕ → List (Compressed W128) → Expr → EvalError → Type 0
HasNoResidues m ms expr (Failed Modulus) = IsNoneOf moduli m
HasNoResidues m ms expr error = IsExprFailure (exact_value ms expr) error

abbrev pub IsReduced : ℕ → List (Compressed W128) → Expr → Result (Compressed W128) EvalError → Type 0
IsReduced m ms expr (Ok value) =
    HasValue (mod_ring m) (reduced_modulo m) (exact_value ms expr) value
IsReduced m ms expr (Err error) = HasNoResidues m ms expr error
