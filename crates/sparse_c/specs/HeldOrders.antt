-- Orders of the rows and columns of matrices that handles hold.
use Rattle.std.specs.Prelude.{◌≡◌, ℕ, ℤ, List, Option}
use Rattle.sparse_algebra.specs.declared.scalar.wrapping.W64.{W64}
use Rattle.sparse_compressed.specs.Compressed.{Compressed}
use Rattle.c_handles.specs.Held.{plain_held, Answers}
use Rattle.c_handles.specs.Ordered.{IsUnordered, WritesOrderOf}

-- the contract of a call that writes some order of the matrix of a handle, with the array before and after the call, and
-- its status
abbrev pub OrdersHeld : Option (Compressed W64) → List ℕ → List ℕ → ℤ → Type 0
OrdersHeld a before after status = Answers status (IsUnordered a before) (after ≡ before)
    (WritesOrderOf (plain_held a) before after)
