-- Products of patterns, and of the matrices of two operands.
use denote.Ref.{Bor}
use Rattle.std.specs.Prelude.{ℕ, ◌↔◌}
use Rattle.sparse_algebra.specs.Algebra.{CommRing}
use Rattle.sparse_algebra.specs.Plain.{Plain, plain_product}
use Rattle.sparse_algebra.specs.Operands.{plain_op}
use Rattle.sparse_algebra.specs.declared.operand.Op.{Op}
use Rattle.sparse_pattern.specs.Raw.{Raw, IsEntry}
use Rattle.sparse_compressed.specs.Compressed.{Compressed}
use Rattle.sparse_compressed.specs.PlainOfLanes.{plain_of_rows, plain_of_cols}

-- d has (i, j) if and only if some k has (i, k) in a and (k, j) in b
abbrev pub IsProductOf : Raw → Raw → Raw → Type 0
IsProductOf d a b = (i j : ℕ) → IsEntry d i j ↔ ((k : ℕ) × IsEntry a i k × IsEntry b k j)

module _ (R : CommRing) {T : Type 0} (f : T → R.Carrier) (a b : Op (Bor (Compressed T))) where
  -- op(A) op(B) of CSR matrices
  abbrev pub product_by_rows : Plain R
  product_by_rows = plain_product R (plain_op R (λ m. plain_of_rows R f m.now) a)
      (plain_op R (λ m. plain_of_rows R f m.now) b)

  -- op(A) op(B) of CSC matrices
  abbrev pub product_by_cols : Plain R
  product_by_cols = plain_product R (plain_op R (λ m. plain_of_cols R f m.now) a)
      (plain_op R (λ m. plain_of_cols R f m.now) b)
