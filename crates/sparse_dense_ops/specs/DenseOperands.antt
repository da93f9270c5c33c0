-- The operands of a product of a sparse and a dense matrix.
use denote.Ref.{Bor}
use Rattle.sparse_algebra.specs.Algebra.{CommRing}
use Rattle.sparse_algebra.specs.Plain.{Plain}
use Rattle.sparse_algebra.specs.Operands.{plain_op}
use Rattle.sparse_algebra.specs.declared.operand.Op.{Op}
use Rattle.sparse_coo_dense.specs.Dense.{Dense}
use Rattle.sparse_coo_dense.specs.DensePlain.{plain_of_dense}
use Rattle.sparse_compressed.specs.Compressed.{Compressed}
use Rattle.sparse_compressed.specs.PlainOfLanes.{plain_of_rows, plain_of_cols}

module _ (R : CommRing) {T : Type 0} (f : T → R.Carrier) where
  -- op(A) of a CSR matrix
  abbrev pub op_rows : Op (Bor (Compressed T)) → Plain R
  op_rows = plain_op R (λ m. plain_of_rows R f m.now)

  -- op(A) of a CSC matrix
  abbrev pub op_cols : Op (Bor (Compressed T)) → Plain R
  op_cols = plain_op R (λ m. plain_of_cols R f m.now)

  -- op(B) of a dense matrix
  abbrev pub op_dense : Op (Bor (Dense T)) → Plain R
  op_dense = plain_op R (λ d. plain_of_dense R f d.now)
