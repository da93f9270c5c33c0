-- Calls that return a CSR matrix, over any ring.
use Rattle.std.specs.Prelude.{◌≡◌, ℤ, Option, Some}
use Rattle.sparse_algebra.specs.Algebra.{CommRing}
use Rattle.sparse_algebra.specs.Integers.{element_of}
use Rattle.sparse_algebra.specs.Plain.{Plain, plain_scaled, plain_transpose}
use Rattle.sparse_compressed.specs.Compressed.{Compressed, IsSound}
use Rattle.sparse_coo_dense.specs.Coo.{AreParts}
use Rattle.sparse_c.specs.Combinations.{combination_of, CanCombine}
use Rattle.sparse_c.specs.Orders.{assembly_of}
use Rattle.sparse_c.specs.Rooms.{WritesIn}
use Rattle.sparse_c.specs.Scalars.{Scalars}
use Rattle.sparse_c.specs.declared.arguments.OutputArrays.{OutputArrays}
use Rattle.sparse_c.specs.declared.handles.rings.tasks.Task.{Task}
use Rattle.sparse_c.specs.declared.handles.rings.tasks.Task.TheVariants.{Rows, Assemble}
use Rattle.sparse_c.specs.declared.handles.rings.tasks.Task.TheVariants.{Transpose, Scale, Combine}
use Rattle.c_arrays.specs.Arrays.{plain_by_rows}
use Rattle.c_arrays.specs.Refused.{IsFaultOf, IsFaultOfList, IsFaultOfPair}
use Rattle.c_arrays.specs.declared.refusal.Refusal.{Refusal}
use Rattle.c_handles.specs.Held.{Answers}

-- the operands of a combination have shapes for which it is defined
abbrev pub CanRun : Task → Type 0
CanRun (Combine p) = CanCombine p
CanRun _ = Unit {0}

-- the operands have no fault
abbrev pub AreOperands : Task → Type 0
AreOperands (Rows a) = IsSound a
AreOperands (Assemble t) = AreParts t.rows t.cols t.row_indices.now t.col_indices.now t.values.now
AreOperands (Transpose a) = IsSound a
AreOperands (Scale q) = IsSound q.a
AreOperands (Combine p) = IsSound p.a × IsSound p.b

-- the error of the first fault of the operands
abbrev pub IsFaultOfTask : Task → Refusal → Type 0
IsFaultOfTask (Rows a) = IsFaultOf a
IsFaultOfTask (Assemble t) =
    IsFaultOfList t.rows t.cols t.row_indices.now t.col_indices.now t.values.now
IsFaultOfTask (Transpose a) = IsFaultOf a
IsFaultOfTask (Scale q) = IsFaultOf q.a
IsFaultOfTask (Combine p) = IsFaultOfPair p.a p.b

-- the result, as a plain matrix
abbrev pub result_of : (R : CommRing) → Task → Plain R
result_of R (Rows a) = plain_by_rows R a
result_of R (Assemble t) = assembly_of R t
result_of R (Transpose a) = plain_transpose R (plain_by_rows R a)
result_of R (Scale q) = plain_scaled R (element_of R q.factor) (plain_by_rows R q.a)
result_of R (Combine p) = combination_of R p

-- there is a matrix of integers, and its plain matrix is a
abbrev pub Represents : {R : CommRing} → Plain R → Option (Compressed ℤ) → Type 0
Represents {R} a answer = (m : Compressed ℤ) × (answer ≡ Some m) × (plain_by_rows R m ≡ a)

-- the contract of a call that returns the result as a matrix of integers: its ring, the variable for the result before
-- and after the call, and its status
abbrev pub Returns : Scalars → Task → Option (Compressed ℤ) → Option (Compressed ℤ) → ℤ → Type 0
Returns S task before after status =
    Answers status (S.IsFault (IsFaultOfTask task)) (after ≡ before)
    (AreOperands task × Represents (result_of S.ring task) after)

-- the contract of a call that writes the result: its ring, the arrays before and after the call, and its status
abbrev pub WritesResult : Scalars → Task → OutputArrays → OutputArrays → ℤ → Type 0
WritesResult S task = WritesIn S (AreOperands task) (IsFaultOfTask task) (result_of S.ring task)
