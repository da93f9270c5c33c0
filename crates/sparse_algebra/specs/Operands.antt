-- Operands of operations: their matrices, transposes and plain matrices.
use Rattle.sparse_algebra.specs.Algebra.{CommRing}
use Rattle.sparse_algebra.specs.Plain.{Plain, plain_transpose}
use Rattle.sparse_algebra.specs.declared.operand.Op.{Op}
use Rattle.sparse_algebra.specs.declared.operand.Op.TheVariants.{NoOp, Transpose}

module _ {X : Type 0} where
  -- the matrix of an operand
  abbrev pub inner_of : Op X → X
  inner_of (NoOp x) = x
  inner_of (Transpose x) = x

  -- the transposed operand, of the same matrix
  abbrev pub op_transposed : Op X → Op X
  op_transposed (NoOp x) = Transpose x
  op_transposed (Transpose x) = NoOp x

  -- P holds of the matrix if the operand is a `NoOp`, and Q if it is a `Transpose`
  abbrev pub MatchOp : Op X → (X → Type 0) → (X → Type 0) → Type 0
  MatchOp (NoOp x) P Q = P x
  MatchOp (Transpose x) P Q = Q x

  -- the operand is a `NoOp`, and P holds of its matrix
  abbrev pub IsNoOpAnd : Op X → (X → Type 0) → Type 0
  IsNoOpAnd (NoOp x) P = P x
  IsNoOpAnd (Transpose x) P = ⊥

  -- the operand is a `Transpose`, and P holds of its matrix
  abbrev pub IsTransposeAnd : Op X → (X → Type 0) → Type 0
  IsTransposeAnd (NoOp x) P = ⊥
  IsTransposeAnd (Transpose x) P = P x

-- f applied to the matrix, transposed if and only if the operand is
abbrev pub op_map : {X Y : Type 0} → (X → Y) → Op X → Op Y
op_map f (NoOp x) = NoOp (f x)
op_map f (Transpose x) = Transpose (f x)

-- op(A): the plain matrix of A, given by `see`, or its transpose
abbrev pub plain_op : (R : CommRing) {X : Type 0} → (X → Plain R) → Op X → Plain R
plain_op R see (NoOp x) = see x
plain_op R see (Transpose x) = plain_transpose R (see x)
