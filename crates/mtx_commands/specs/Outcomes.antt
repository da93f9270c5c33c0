-- How a command, or the program, ends.
use Rattle.std.specs.Prelude.{◌≡◌, ◌≢◌, ℕ, List}
use Rattle.nalgebra_sparse.specs.Run.{Effect}
use Rattle.file_readings.specs.Readings.{Reading}
use Rattle.mtx_commands.specs.Commands.{IsAnswered, status_of}
use Rattle.mtx_commands.specs.Failures.{CanEnd, CanFail}
use Rattle.mtx_commands.specs.Reports.{IsReported}
use Rattle.mtx_commands.specs.Writes.{HasBegun}
use Rattle.mtx_commands.specs.declared.cli.Failure.{Failure}

-- at this status the failure is one for which `Why` holds, it has the status, and its line was
-- written to the sink for errors, whose effect is `err`
pub record HasFailed (Why : Failure → Type 0) (err : Effect) (status : ℕ) : Type 0 where
  pub failure : Failure
  pub why : Why failure
  pub is : status ≡ status_of failure
  pub reported : IsReported failure err.accepted_before err.accepted err.failures_before err.failures

-- at status 0 the answer for the texts of the files was written, and at another one nothing or a
-- part of it; then the failure is one for which `Why` holds
pub record Ends (Why : Failure → Type 0) (words : List (List ℕ)) (before after : List Reading)
    (out err : Effect) (status : ℕ) : Type 0 where
  pub answered : status ≡ 0 → IsAnswered words before after out.accepted_before out.accepted
  pub begun : status ≢ 0
      → HasBegun (IsAnswered words before after) out.accepted_before out.accepted
  pub failed : status ≢ 0 → HasFailed Why err status

-- how a command ends
abbrev pub EndsCommand : List (List ℕ) → List Reading → List Reading → Effect → Effect → ℕ → Type 0
EndsCommand words before after out err status =
    Ends (CanFail words before after out) words before after out err status

-- how the program ends, where its arguments can be read
abbrev pub EndsProgram : List (List ℕ) → List Reading → List Reading → Effect → Effect → ℕ → Type 0
EndsProgram words before after out err status =
    Ends (CanEnd words before after out) words before after out err status
