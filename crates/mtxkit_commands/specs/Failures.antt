-- Why commands write nothing.
use Rattle.std.specs.Prelude.{◌≡◌, ◌⊎◌, ℕ, List, Option, None}
use Rattle.mtxkit_matrices.specs.declared.orders.EliminationOrder.{EliminationOrder}
use Rattle.mtxkit_matrices.specs.ScaleFailures.{IsScaleFailure}
use Rattle.mtxkit_matrices.specs.ScaledTexts.{IsLeastTextScale}
use Rattle.mtxkit_matrices.specs.declared.decimals.error.ScaleError.{ScaleError}
use Rattle.mtxkit_matrices.specs.declared.decimals.error.ScaleError.TheVariants.{Fraction}
use Rattle.mtxkit_patterns.specs.declared.order_error.OrderError.{OrderError}
use Rattle.mtxkit_texts.specs.AnyField.{IsPlacesFailure}
use Rattle.mtxkit_facts.specs.Facts.{IsInfoFailure}
use Rattle.mtxkit_texts.specs.Loaded.{IsValuesFailure}
use Rattle.mtxkit_texts.specs.Lower.{IsSymmetricFailure}
use Rattle.mtxkit_texts.specs.Rewritten.{IsCopyFailure}
use Rattle.mtxkit_texts.specs.declared.failure.Failure.{Failure}
use Rattle.mtxkit_texts.specs.declared.failure.Failure.TheVariants.{OutOfMemory}
use Rattle.mtxkit_eval.specs.Evaluated.{IsEvalFailure}
use Rattle.mtxkit_eval.specs.declared.error.EvalError.{EvalError}
use Rattle.mtxkit_eval.specs.declared.error.EvalError.TheVariants as eval
use Rattle.mtxkit_systems.specs.Systems.{IsSolveFailure, IsCheckFailure}
use Rattle.mtxkit_arguments.specs.Files.{paths}
use Rattle.mtxkit_arguments.specs.declared.commands.Command.{Command}
use Rattle.mtxkit_arguments.specs.declared.commands.Command.TheVariants.{Info, Spy, Copy, Field}
use Rattle.mtxkit_arguments.specs.declared.commands.Command.TheVariants.{Integer}
use Rattle.mtxkit_arguments.specs.declared.commands.Command.TheVariants.{Order, Permute, Fill}
use Rattle.mtxkit_arguments.specs.declared.commands.Command.TheVariants.{Symmetric, Solve, Check}
use Rattle.mtxkit_arguments.specs.declared.commands.Command.TheVariants.{Eval}
use Rattle.mtxkit_arguments.specs.declared.options.Values.{Values}
use Rattle.mtxkit_arguments.specs.declared.options.Values.TheVariants.{Integers, Pattern}
use Rattle.file_readings.specs.Readings.{Reading}
use Rattle.mtxkit_commands.specs.Inputs.{IsUnread, IsFirstUnread}
use Rattle.mtxkit_commands.specs.OrderCommands.{IsOrderError, IsPermuteError, IsFillError}
use Rattle.file_readings.specs.Reads.{ReadsOne, ReadsThree, ReadsAll}
use Rattle.mtxkit_commands.specs.Reads.{FailsOne, FailsTwo}
use Rattle.mtxkit_commands.specs.Reads.{IsSecondUnread, IsThirdUnread}
use Rattle.mtxkit_commands.specs.declared.command_error.CommandError.{CommandError}
use Rattle.mtxkit_commands.specs.declared.command_error.CommandError.TheVariants.{Failed}
use Rattle.mtxkit_commands.specs.declared.command_error.CommandError.TheVariants.{Unscaled}
use Rattle.mtxkit_commands.specs.declared.command_error.CommandError.TheVariants.{Misordered}
use Rattle.mtxkit_commands.specs.declared.command_error.CommandError.TheVariants.{Unwritten}
use Rattle.mtxkit_commands.specs.declared.command_error.CommandError.TheVariants.{Unevaluated}

-- why the text of a text's matrix is not written
abbrev pub IsFieldFailureOf : Values → List ℕ → Failure → Type 0
IsFieldFailureOf Integers text failure = IsValuesFailure 1 text failure
IsFieldFailureOf Pattern text failure = IsPlacesFailure 1 text failure

-- why `solve` fails: one of the files of A and B cannot be read, or the system of their texts is not solved
abbrev pub IsUnsolved : Option ℕ → EliminationOrder → List ℕ → List ℕ → List Reading → List Reading
    → Failure → Type 0
IsUnsolved modulus order a b old new failure =
    FailsTwo a b (IsSolveFailure modulus order) old new failure

-- why `check` fails: one of the files of A, X and B cannot be read, or their texts do not confirm that A X = B
abbrev pub IsUnchecked : Option ℕ → List ℕ → List ℕ → List ℕ → List Reading → List Reading → Failure
    → Type 0
IsUnchecked modulus a x b old new failure = IsUnread 1 a old new failure
    ⊎ (IsSecondUnread a x old new failure ⊎ (IsThirdUnread a x b old new failure
    ⊎ ReadsThree a x b (λ first second third. IsCheckFailure modulus first second third failure)
    old new))

-- why `eval` fails for the texts of its files
abbrev pub IsEvalFault : Option ℕ → List ℕ → List (List ℕ) → List Reading → List Reading → EvalError
    → Type 0
IsEvalFault modulus words files old new error =
    ReadsAll files (λ texts. IsEvalFailure modulus words texts error) old new

-- why `eval` fails with a failure that other commands have too: an allocation failed, a file cannot be read, or it is
-- why it fails for their texts
abbrev pub IsEvalFailed : Option ℕ → List ℕ → List (List ℕ) → List Reading → List Reading → Failure
    → Type 0
IsEvalFailed modulus words files old new failure =
    (failure ≡ OutOfMemory) ⊎ (IsFirstUnread files old new failure
    ⊎ IsEvalFault modulus words files old new (eval.Failed failure))

-- why a command fails before it writes: a file cannot be read after those before it were, or the texts of the files
-- have a fault
abbrev pub IsFailure : Command → List Reading → List Reading → Failure → Type 0
IsFailure (Info file form) old new failure = FailsOne file.now IsInfoFailure old new failure
IsFailure (Spy file size target) old new failure =
    FailsOne file.now (IsPlacesFailure 1) old new failure
IsFailure (Copy file) old new failure = FailsOne file.now IsCopyFailure old new failure
IsFailure (Field file values) old new failure =
    FailsOne file.now (IsFieldFailureOf values) old new failure
IsFailure (Integer file scale) old new failure =
    FailsOne file.now (λ text f. f ≡ OutOfMemory) old new failure
IsFailure (Symmetric file) old new failure = FailsOne file.now IsSymmetricFailure old new failure
IsFailure (Order file method) old new failure = IsOrderError file.now old new (Failed failure)
IsFailure (Permute order file) old new failure =
    IsPermuteError order.now file.now old new (Failed failure)
IsFailure (Fill file order form) old new failure =
    IsFillError order file.now old new (Failed failure)
IsFailure (Eval modulus order words files) old new failure =
    IsEvalFailed modulus words.now (paths files.now) old new failure
IsFailure (Solve modulus order a b) old new failure =
    IsUnsolved modulus order a.now b.now old new failure
IsFailure (Check modulus a x b) old new failure =
    IsUnchecked modulus a.now x.now b.now old new failure

-- the least scale with which the text is scaled, which is computed only for a value that is refused as a fraction
abbrev pub IsScaleFound : List ℕ → ScaleError → Option ℕ → Type 0
IsScaleFound text (Fraction n least) found = IsLeastTextScale text found
IsScaleFound text error found = found ≡ None

-- the numbers of the file's text are not scaled, for this reason; `least` is the least scale with which they are, if it
-- was computed and there is one
abbrev pub IsUnscaled : ℕ → List ℕ → List Reading → List Reading → ScaleError → Option ℕ → Type 0
IsUnscaled scale file old new error least =
    ReadsOne file (λ text. IsScaleFailure scale text error × IsScaleFound text error least) old new

-- the command is `integer`, and the numbers of its file's text are not scaled, for this reason
abbrev pub IsUnscaledBy : Command → List Reading → List Reading → ScaleError → Option ℕ → Type 0
IsUnscaledBy (Integer file scale) old new error least =
    IsUnscaled scale file.now old new error least
IsUnscaledBy command old new error least = ⊥

-- the error of `integer` for a text that is not scaled for this reason
abbrev pub IsUnscaledText : List ℕ → ScaleError → CommandError → Type 0
IsUnscaledText text error (Failed failure) = failure ≡ OutOfMemory
IsUnscaledText text error (Unscaled why least) = (why ≡ error) × IsScaleFound text error least
IsUnscaledText text error other = ⊥

-- the command is one of those about orders, and the order or its matrix is at fault, in this way
abbrev pub IsMisorderedBy : Command → List Reading → List Reading → OrderError → Type 0
IsMisorderedBy (Order file method) old new error =
    IsOrderError file.now old new (Misordered error)
IsMisorderedBy (Permute order file) old new error =
    IsPermuteError order.now file.now old new (Misordered error)
IsMisorderedBy (Fill file order form) old new error =
    IsFillError order file.now old new (Misordered error)
IsMisorderedBy command old new error = ⊥

-- the command is `eval`, and its expression has no value that is written, for this reason
abbrev pub IsUnevaluatedBy : Command → List Reading → List Reading → EvalError → Type 0
IsUnevaluatedBy (Eval modulus order words files) old new error =
    IsEvalFault modulus words.now (paths files.now) old new error
IsUnevaluatedBy command old new error = ⊥

-- the same for all errors of commands
abbrev pub HasNoAnswer : Command → List Reading → List Reading → CommandError → Type 0
HasNoAnswer command old new (Failed failure) = IsFailure command old new failure
HasNoAnswer command old new (Unscaled error least) = IsUnscaledBy command old new error least
HasNoAnswer command old new (Misordered error) = IsMisorderedBy command old new error
HasNoAnswer command old new (Unevaluated error) = IsUnevaluatedBy command old new error
HasNoAnswer command old new (Unwritten kind) = ⊥

-- the same for `integer`
abbrev pub IsScaleError : ℕ → List ℕ → List Reading → List Reading → CommandError → Type 0
IsScaleError scale file old new (Failed failure) =
    FailsOne file (λ text f. f ≡ OutOfMemory) old new failure
IsScaleError scale file old new (Unscaled error least) =
    IsUnscaled scale file old new error least
IsScaleError scale file old new error = ⊥

-- the same for `eval`
abbrev pub IsEvalError : Option ℕ → List ℕ → List (List ℕ) → List Reading → List Reading
    → CommandError → Type 0
IsEvalError modulus words files old new (Failed failure) =
    IsEvalFailed modulus words files old new failure
IsEvalError modulus words files old new (Unevaluated error) =
    IsEvalFault modulus words files old new error
IsEvalError modulus words files old new error = ⊥
