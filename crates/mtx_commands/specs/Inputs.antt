-- The failures of a command whose files cannot be read.
use Rattle.std.specs.Prelude.{◌≡◌, ◌⊎◌, ◌++◌, ℕ, List, Err}
use Rattle.std.specs.IoError.{error_kind}
use Rattle.std.specs.declared.io.Error.{Error}
use Rattle.sparse_parser.specs.declared.error.MatrixMarketErrorKind.{MatrixMarketErrorKind}
use Rattle.sparse_parser.specs.declared.error.MatrixMarketErrorKind.TheVariants as kind
use Rattle.nalgebra_sparse.specs.Files.{file_fault}
use Rattle.nalgebra_sparse.specs.Meaning.{Means}
use Rattle.nalgebra_sparse.specs.ScalarTypes.{pattern_scalar}
use Rattle.sparse_expr.specs.declared.error.ExprError.{ExprError}
use Rattle.sparse_expr.specs.declared.error.ExprError.TheVariants.{Input, OutOfMemory}
use Rattle.file_readings.specs.Readings.{Reading, AreRead, IsFirstUnread}
use Rattle.mtx_commands.specs.declared.cli.Failure.{Failure}
use Rattle.mtx_commands.specs.declared.cli.Failure.TheVariants.{Refused}

-- the error for the file with this number: a failed allocation names no file
abbrev pub input_fault : ℕ → MatrixMarketErrorKind → ExprError
input_fault number kind.OutOfMemory = OutOfMemory
input_fault number fault = Input number fault

-- the failure for the file with this number, which could not be opened or read
abbrev pub unread_fault : ℕ → Error → Failure
unread_fault number error = Refused (input_fault number (file_fault (error_kind error)))

-- the first of these files were read, in order, and no other
pub record HasReadSome (paths : List (List ℕ)) (before after : List Reading) : Type 0 where
  pub some : List (List ℕ)
  pub others : List (List ℕ)
  pub contents : List (List ℕ)
  pub split : paths ≡ some ++ others
  pub read : AreRead some contents before after

-- why the texts of files are not read: an allocation failed, or the first file that cannot be read
abbrev pub IsUnread : List (List ℕ) → List Reading → List Reading → Failure → Type 0
IsUnread paths before after failure =
    ((failure ≡ Refused OutOfMemory) × HasReadSome paths before after)
    ⊎ IsFirstUnread unread_fault paths before after failure

-- the text of the only file is not that of a pattern, or an allocation failed
pub record IsMisread (text : List ℕ) (failure : Failure) : Type 0 where
  pub fault : MatrixMarketErrorKind
  pub is : failure ≡ Refused (input_fault 1 fault)
  pub why : (fault ≡ kind.OutOfMemory) ⊎ Means pattern_scalar text (Err fault)
