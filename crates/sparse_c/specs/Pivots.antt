-- Calls that write how many of the first rows and columns of a symmetric matrix have factors.
use Rattle.std.specs.Prelude.{◌≡◌, ◌≢◌, ℕ, ℤ, pos}
use Rattle.sparse_compressed.specs.Compressed.{IsSound}
use Rattle.sparse_factor.specs.LeadingBlocks.{StopsAt}
use Rattle.sparse_c.specs.Scalars.{Scalars}
use Rattle.sparse_c.specs.Symmetric.{symmetric_by_cols}
use Rattle.sparse_c.specs.declared.arguments.Factored.{Factored}
use Rattle.c_arrays.specs.Refused.{IsFaultOf, IsRefusedFor}

-- the contract of a call over a ring that writes at which column the factorisation stops: the variable for the column
-- before the call and after it, and its status
pub record FindsPivot (S : Scalars) (s : Factored) (before after : ℕ) (status : ℤ) : Type 0 where
  pub found : status ≡ pos 0 → StopsAt S.ring S.value (symmetric_by_cols S.ring s.a) after
  pub sound : status ≡ pos 0 → IsSound s.a
  pub untouched : status ≢ pos 0 → after ≡ before
  pub refused : status ≢ pos 0 → IsRefusedFor (S.IsFault (IsFaultOf s.a)) ⊥ status
