-- What `order`, `permute` and `fill` write, and why they fail.
use Rattle.std.specs.Prelude.{ℕ, List, Option, Some, None}
use Rattle.mtxkit_patterns.specs.FillTexts.{WritesFill, WritesFillIn, IsUnfilled}
use Rattle.mtxkit_patterns.specs.Orders.{WritesOrder, IsNoSquare}
use Rattle.mtxkit_patterns.specs.Permuted.{WritesPermuted, IsUnpermuted}
use Rattle.mtxkit_patterns.specs.declared.order_error.OrderError.{OrderError}
use Rattle.mtxkit_patterns.specs.declared.order_error.OrderError.TheVariants as order
use Rattle.mtxkit_patterns.specs.declared.square.Method.{Method}
use Rattle.mtxkit_facts.specs.declared.facts.ReportFormat.{ReportFormat}
use Rattle.mtxkit_arguments.specs.declared.options.FillOrder.{FillOrder}
use Rattle.mtxkit_arguments.specs.declared.options.FillOrder.TheVariants as fill
use Rattle.file_readings.specs.Readings.{Reading}
use Rattle.file_readings.specs.Reads.{ReadsOne, ReadsTwo}
use Rattle.mtxkit_commands.specs.Reads.{FailsOne, FailsTwo}
use Rattle.mtxkit_commands.specs.declared.command_error.CommandError.{CommandError}
use Rattle.mtxkit_commands.specs.declared.command_error.CommandError.TheVariants.{Failed}
use Rattle.mtxkit_commands.specs.declared.command_error.CommandError.TheVariants.{Misordered}

-- ---- what is written

-- the text of an order of the file's rows and columns
abbrev pub IsOrderAnswer : List ℕ → List Reading → List Reading → List ℕ → Type 0
IsOrderAnswer file old new written = ReadsOne file (λ text. WritesOrder text written) old new

-- the text of the second file's matrix, permuted by the order of the first one
abbrev pub IsPermuteAnswer : List ℕ → List ℕ → List Reading → List Reading → List ℕ → Type 0
IsPermuteAnswer a b old new written =
    ReadsTwo a b (λ first second. WritesPermuted first second written) old new

-- the facts about the fill of the file's matrix, in this form
abbrev pub IsFillAnswerAlone : Option Method → ReportFormat → List ℕ → List Reading → List Reading → List ℕ
    → Type 0
IsFillAnswerAlone method form file old new written =
    ReadsOne file (λ text. WritesFill form method text written) old new

-- the facts about the fill of the second file's matrix, in the order of the first one
abbrev pub IsFillAnswerInOrder : ReportFormat → List ℕ → List ℕ → List Reading → List Reading → List ℕ
    → Type 0
IsFillAnswerInOrder form a b old new written =
    ReadsTwo a b (λ first second. WritesFillIn form first second written) old new

abbrev pub IsFillAnswer : FillOrder → ReportFormat → List ℕ → List Reading → List Reading → List ℕ → Type 0
IsFillAnswer fill.Natural form file old new written =
    IsFillAnswerAlone None form file old new written
IsFillAnswer (fill.Computed method) form file old new written =
    IsFillAnswerAlone (Some method) form file old new written
IsFillAnswer (fill.File path) form file old new written =
    IsFillAnswerInOrder form path.now file old new written

-- ---- why they fail

-- the only file cannot be read, or its text has a fault for which `IsFault` holds: one that other commands have too, or
-- one of an order or its matrix
abbrev pub IsErrorOfOne : (List ℕ → OrderError → Type 0) → List ℕ → List Reading → List Reading
    → CommandError → Type 0
IsErrorOfOne IsFault file old new (Failed failure) =
    FailsOne file (λ text f. IsFault text (order.Failed f)) old new failure
IsErrorOfOne IsFault file old new (Misordered error) =
    ReadsOne file (λ text. IsFault text error) old new
IsErrorOfOne IsFault file old new error = ⊥

-- the same for two files
abbrev pub IsErrorOfTwo : (List ℕ → List ℕ → OrderError → Type 0) → List ℕ → List ℕ → List Reading
    → List Reading → CommandError → Type 0
IsErrorOfTwo IsFault a b old new (Failed failure) =
    FailsTwo a b (λ first second f. IsFault first second (order.Failed f)) old new failure
IsErrorOfTwo IsFault a b old new (Misordered error) =
    ReadsTwo a b (λ first second. IsFault first second error) old new
IsErrorOfTwo IsFault a b old new error = ⊥

abbrev pub IsOrderError : List ℕ → List Reading → List Reading → CommandError → Type 0
IsOrderError file old new error = IsErrorOfOne (IsNoSquare 1) file old new error

abbrev pub IsPermuteError : List ℕ → List ℕ → List Reading → List Reading → CommandError → Type 0
IsPermuteError a b old new error = IsErrorOfTwo IsUnpermuted a b old new error

abbrev pub IsFillErrorInOrder : List ℕ → List ℕ → List Reading → List Reading → CommandError
    → Type 0
IsFillErrorInOrder a b old new error = IsErrorOfTwo IsUnfilled a b old new error

abbrev pub IsFillError : FillOrder → List ℕ → List Reading → List Reading → CommandError → Type 0
IsFillError fill.Natural file old new error = IsOrderError file old new error
IsFillError (fill.Computed method) file old new error = IsOrderError file old new error
IsFillError (fill.File path) file old new error = IsFillErrorInOrder path.now file old new error
