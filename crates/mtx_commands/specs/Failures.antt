-- Why commands fail, which files they then have read, and what was done to their output.
use Rattle.std.specs.Prelude.{◌≡◌, ◌⊎◌, ℕ, List}
use Rattle.std.specs.declared.io.ErrorKind.{ErrorKind}
use Rattle.nalgebra_sparse.specs.PostfixWords.{words_of, IsSaid, IsRefused}
use Rattle.nalgebra_sparse.specs.Run.{Effect, IsUntouched, RefusesRun}
use Rattle.sparse_expr.specs.declared.calculator.Form.{Form}
use Rattle.sparse_expr.specs.declared.error.ExprError.{ExprError}
use Rattle.sparse_expr.specs.declared.error.ExprError.TheVariants.{Write, OutOfMemory}
use Rattle.sparse_expr.specs.declared.expr.Expr.{Expr}
use Rattle.sparse_factor.specs.declared.factorization.Triangle.{Triangle}
use Rattle.file_readings.specs.Readings.{Reading, AreRead}
use Rattle.file_readings.specs.Readings as file
use Rattle.file_readings.specs.Reads.{ReadsOne}
use Rattle.mtx_commands.specs.Commands.{AsksFill, AsksValue, IsAnswered, IsCommand}
use Rattle.mtx_commands.specs.Fills.{IsFillFault}
use Rattle.mtx_commands.specs.Inputs.{IsUnread, unread_fault}
use Rattle.mtx_commands.specs.declared.cli.Failure.{Failure}
use Rattle.mtx_commands.specs.declared.cli.Failure.TheVariants.{Usage, Refused}

-- an allocation failed; no file was read and nothing was written
abbrev pub IsUnstarted : List Reading → List Reading → Effect → Failure → Type 0
IsUnstarted before after effect failure =
    (failure ≡ Refused OutOfMemory) × (after ≡ before) × IsUntouched effect

-- the words of the expression have this error; no file was read and nothing was written
pub record IsMisworded (expression : List ℕ) (before after : List Reading) (effect : Effect)
    (failure : Failure) : Type 0 where
  pub error : ExprError
  pub is : failure ≡ Refused error
  pub refused : IsRefused (words_of expression) error
  pub unread : after ≡ before
  pub untouched : IsUntouched effect

-- all files were read, and the run of the expression over their texts has this error: that of the
-- first text that has one, or else of the expression or of a write
pub record FailsRun (form : Form) (expression : List ℕ) (paths : List (List ℕ))
    (before after : List Reading) (effect : Effect) (failure : Failure) : Type 0 where
  pub sources : List (List ℕ)
  pub expr : Expr
  pub error : ExprError
  pub is : failure ≡ Refused error
  pub read : AreRead paths sources before after
  pub said : IsSaid (words_of expression) expr
  pub refused : RefusesRun form sources expr effect error

-- why the value of an expression over files is not written
abbrev pub IsUnevaluated : Form → List ℕ → List (List ℕ) → List Reading → List Reading → Effect
    → Failure → Type 0
IsUnevaluated form expression paths before after effect failure =
    IsUnstarted before after effect failure
    ⊎ (IsMisworded expression before after effect failure
    ⊎ ((IsUnread paths before after failure × IsUntouched effect)
    ⊎ FailsRun form expression paths before after effect failure))

-- why the fill of the matrix in a file is not written
abbrev pub IsUnfilled : List ℕ → List Reading → List Reading → Effect → Failure → Type 0
IsUnfilled path before after effect failure =
    (file.IsUnread unread_fault 1 path before after failure × IsUntouched effect)
    ⊎ ReadsOne path (λ text. IsFillFault text effect failure) before after

-- the words are no command; no file was read and nothing was written
pub record IsWrongUsage (words : List (List ℕ)) (before after : List Reading) (effect : Effect)
    (failure : Failure) : Type 0 where
  pub is : failure ≡ Usage
  pub wrong : ¬ IsCommand words
  pub unread : after ≡ before
  pub untouched : IsUntouched effect

-- the words ask for the value of an expression, and that is not written
pub record HasNoValue (words : List (List ℕ)) (before after : List Reading) (effect : Effect)
    (failure : Failure) : Type 0 where
  pub asked : AsksValue words
  pub why : IsUnevaluated asked.form asked.expression asked.paths before after effect failure

-- the words ask for a fill, and that is not written
pub record HasNoFill (words : List (List ℕ)) (before after : List Reading) (effect : Effect)
    (failure : Failure) : Type 0 where
  pub triangle : Triangle
  pub path : List ℕ
  pub asked : AsksFill triangle path words
  pub why : IsUnfilled path before after effect failure

-- why a command fails
abbrev pub CanFail : List (List ℕ) → List Reading → List Reading → Effect → Failure → Type 0
CanFail words before after effect failure = IsWrongUsage words before after effect failure
    ⊎ (HasNoValue words before after effect failure ⊎ HasNoFill words before after effect failure)

-- the answer was written, and then the output was not flushed
pub record IsUnflushed (words : List (List ℕ)) (before after : List Reading) (effect : Effect)
    (failure : Failure) : Type 0 where
  pub kind : ErrorKind
  pub is : failure ≡ Refused (Write kind)
  pub answered : IsAnswered words before after effect.accepted_before effect.accepted
  pub unfailed : effect.failures ≡ effect.failures_before

-- why the program fails, where its arguments can be read
abbrev pub CanEnd : List (List ℕ) → List Reading → List Reading → Effect → Failure → Type 0
CanEnd words before after effect failure = IsUnstarted before after effect failure
    ⊎ (CanFail words before after effect failure ⊎ IsUnflushed words before after effect failure)
