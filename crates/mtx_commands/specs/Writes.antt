-- The failures of a command whose output cannot be written.
use Rattle.std.specs.Prelude.{◌≡◌, ◌⊎◌, ◌+◌, ℕ, List, Option, Some}
use Rattle.std.specs.declared.io.ErrorKind.{ErrorKind}
use Rattle.std.specs.Io.KnownBytes.{Keeps, Appends}
use Rattle.nalgebra_sparse.specs.Sink.{AppendsSome}
use Rattle.sparse_parser.specs.declared.error.MatrixMarketErrorKind.{MatrixMarketErrorKind}
use Rattle.sparse_parser.specs.declared.error.MatrixMarketErrorKind.TheVariants.{IOError}
use Rattle.sparse_expr.specs.declared.error.ExprError.{ExprError}
use Rattle.sparse_expr.specs.declared.error.ExprError.TheVariants.{Write, OutOfMemory}
use Rattle.mtx_commands.specs.declared.cli.Failure.{Failure}
use Rattle.mtx_commands.specs.declared.cli.Failure.TheVariants.{Refused}

-- the error for a failed write or a failed allocation
abbrev pub write_fault : MatrixMarketErrorKind → ExprError
write_fault (IOError kind) = Write kind
write_fault fault = OutOfMemory

-- an allocation failed and no write did, or the last write failed with this kind; by the numbers of
-- failed writes before and after
abbrev pub IsUnwritten : ℕ → ℕ → Option ErrorKind → Failure → Type 0
IsUnwritten before after last (Refused OutOfMemory) = after ≡ before
IsUnwritten before after last (Refused (Write kind)) = (after ≡ before + 1) × (last ≡ Some kind)
IsUnwritten before after last failure = ⊥

-- a prefix of a text was appended with which the whole output would be an answer
pub record WritesPart (Answer : Option (List ℕ) → Option (List ℕ) → Type 0) (old new : Option (List ℕ)) :
    Type 0 where
  pub whole : Option (List ℕ)
  pub text : List ℕ
  pub is_answer : Answer old whole
  pub appended : Appends old whole text
  pub part : AppendsSome old new text

-- nothing was written, or a part of an answer
abbrev pub HasBegun : (Option (List ℕ) → Option (List ℕ) → Type 0) → Option (List ℕ) → Option (List ℕ) →
    Type 0
HasBegun Answer old new = Keeps old new ⊎ WritesPart Answer old new

-- no write failed, or one did
abbrev pub FailsOnce : ℕ → ℕ → Type 0
FailsOnce before after = (after ≡ before) ⊎ (after ≡ before + 1)
