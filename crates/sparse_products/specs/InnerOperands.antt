-- The matrices of a product's operands, borrowed or owned.
use Rattle.std.specs.Prelude.{◌≡◌, Bool}
use Rattle.sparse_algebra.specs.Algebra.{CommRing}
use Rattle.sparse_algebra.specs.Plain.{Plain, plain_product}
use Rattle.sparse_algebra.specs.Prealloc.{plain_transpose_if}
use Rattle.sparse_compressed.specs.Compressed.{Compressed}
use Rattle.sparse_compressed.specs.PlainOfLanes.{plain_of_rows}
use Rattle.sparse_products.specs.declared.serial.multiplicands.Matrices.{Matrices}
use Rattle.sparse_products.specs.declared.serial.multiplicands.Multiplicand.{Multiplicand}
use Rattle.sparse_products.specs.declared.serial.multiplicands.Multiplicand.TheVariants.{Borrowed, Owned}
use Rattle.sparse_products.specs.declared.serial.multiplicands.Operands.{Operands}

-- the matrix of an operand
abbrev pub matrix_of : {T : Type 0} → Multiplicand T → Compressed T
matrix_of (Borrowed m) = m.now
matrix_of (Owned m) = m

-- the inner dimensions are equal
abbrev pub CanMultiply : {T : Type 0} → Matrices T → Type 0
CanMultiply x = x.a.now.pattern.minor_dim ≡ x.b.now.pattern.major_dim

-- the product as a plain matrix
abbrev pub product_of : (R : CommRing) {T : Type 0} → (T → R.Carrier) → Matrices T → Plain R
product_of R f x = plain_product R (plain_of_rows R f x.a.now) (plain_of_rows R f x.b.now)

-- x has the matrices of the operands o
abbrev pub AreMatricesOf : {T : Type 0} → Operands T → Matrices T → Type 0
AreMatricesOf o x = (x.a.now ≡ matrix_of o.a) × (x.b.now ≡ matrix_of o.b)

-- the product of the operands' matrices by rows is p, or its transpose if `transposed` is true
pub record HasProduct (R : CommRing) {T : Type 0} (f : T → R.Carrier) (transposed : Bool)
    (p : Plain R) (o : Operands T) : Type 0 where
  pub inner : (matrix_of o.a).pattern.minor_dim ≡ (matrix_of o.b).pattern.major_dim
  pub product : plain_product R (plain_of_rows R f (matrix_of o.a))
      (plain_of_rows R f (matrix_of o.b)) ≡ plain_transpose_if R transposed p
