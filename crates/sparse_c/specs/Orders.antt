-- Assembly of a CSR or a CSC matrix from triplets.
use Rattle.std.specs.Prelude.{ℤ}
use Rattle.sparse_algebra.specs.Algebra.{CommRing}
use Rattle.sparse_algebra.specs.Plain.{Plain, plain_transpose}
use Rattle.sparse_coo_dense.specs.Coo.{AreParts}
use Rattle.sparse_c.specs.Rooms.{WritesIn}
use Rattle.sparse_c.specs.Scalars.{Scalars}
use Rattle.sparse_c.specs.declared.arguments.Order.{Order}
use Rattle.sparse_c.specs.declared.arguments.Order.TheVariants.{Rows, Columns}
use Rattle.sparse_c.specs.declared.arguments.OutputArrays.{OutputArrays}
use Rattle.sparse_c.specs.declared.arguments.Triplets.{Triplets}
use Rattle.c_arrays.specs.Arrays.{plain_of_lists}
use Rattle.c_arrays.specs.Refused.{IsFaultOfList}

module _ (R : CommRing) where
  -- the plain matrix of the CSR matrix that has the same arrays as the CSR or the CSC matrix of a
  abbrev pub in_order : Order → Plain R → Plain R
  in_order Rows a = a
  in_order Columns a = plain_transpose R a

  -- the same for the matrix of triplets
  abbrev pub assembly_of : Triplets → Plain R
  assembly_of t = in_order t.order
      (plain_of_lists R t.rows t.cols t.row_indices.now t.col_indices.now t.values.now)

-- the contract of a call that assembles triplets: its ring, the arrays before and after the call, and its status
abbrev pub Assembles : Scalars → Triplets → OutputArrays → OutputArrays → ℤ → Type 0
Assembles S t =
    WritesIn S (AreParts t.rows t.cols t.row_indices.now t.col_indices.now t.values.now)
    (IsFaultOfList t.rows t.cols t.row_indices.now t.col_indices.now t.values.now)
    (assembly_of S.ring t)
