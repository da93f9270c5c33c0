-- How the program ends: as its command does, after a flush, or since an allocation failed before that.
use Rattle.std.proofs.Common.{◌≡◌, ◌≢◌, ◌≤◌, ◌+◌, ℕ, List, Option, inl, inr, refl, sym, ◌∙◌, arith}
use Rattle.std.specs.declared.io.ErrorKind.{ErrorKind}
use Rattle.std.specs.Io.KnownBytes.{Keeps}
use Rattle.nalgebra_sparse.specs.Run.{Effect, effect}
use Rattle.sparse_expr.specs.declared.error.ExprError.TheVariants.{OutOfMemory, Write}
use Rattle.file_readings.specs.Readings.{Reading}
use Rattle.mtx_commands.specs.Commands.{IsAnswered}
use Rattle.mtx_commands.specs.Failures.{CanFail}
use Rattle.mtx_commands.specs.Outcomes.{EndsProgram, HasFailed}
use Rattle.mtx_commands.specs.Reports.{IsReported}
use Rattle.mtx_commands.specs.Writes.{HasBegun}
use Rattle.mtx_commands.specs.declared.cli.Failure.TheVariants.{Refused}
use Rattle.mtx_commands.proofs.Begun.{not_begun, IsAnswered-kept, HasBegun-answered}

module _ (words : List (List ℕ)) (before after : List Reading) (err : Effect) (status : ℕ) where
  -- as the command did
  pub ends_command : (out : Effect)
      → (status ≡ 0 → IsAnswered words before after out.accepted_before out.accepted)
      → (status ≢ 0 → HasBegun (IsAnswered words before after) out.accepted_before out.accepted)
      → (status ≢ 0 → HasFailed (CanFail words before after out) err status)
      → EndsProgram words before after out err status
  ends_command out answered begun failed = record {
    answered = answered;
    begun = begun;
    failed = λ other. record {
      failure = (failed other).failure;
      why = inr (inl (failed other).why);
      is = (failed other).is;
      reported = (failed other).reported;
    };
  }

  -- an answer, after which the output was flushed, or not
  pub ends_flushed : (old mid new : Option (List ℕ)) (failures failures' : ℕ) (last : Option ErrorKind)
      → IsAnswered words before after old mid → Keeps mid new → failures' ≡ failures → status ≤ 1
      → (status ≢ 0 → (kind : ErrorKind) × IsReported (Refused (Write kind)) err.accepted_before
      err.accepted err.failures_before err.failures)
      → EndsProgram words before after (effect old new failures failures' last) err status
  ends_flushed old mid new failures failures' last answered kept unfailed most reported = record {
    answered = λ _. IsAnswered-kept words before after old mid new answered kept;
    begun = λ _. HasBegun-answered words before after old mid new answered kept;
    failed = λ other. record {
      failure = Refused (Write (reported other).0);
      why = inr (inr (record {
        kind = (reported other).0;
        is = refl;
        answered = IsAnswered-kept words before after old mid new answered kept;
        unfailed = unfailed;
      }));
      is = omega (arith, other);
      reported = (reported other).1;
    };
  }

-- an allocation failed before a file was read
pub ends_unstarted : (words : List (List ℕ)) (before : List Reading) (err : Effect) (status : ℕ)
    (old : Option (List ℕ)) (failures : ℕ) (last : Option ErrorKind) → status ≡ 1
    → IsReported (Refused OutOfMemory) err.accepted_before err.accepted err.failures_before err.failures
    → EndsProgram words before before (effect old old failures failures last) err status
ends_unstarted words before err status old failures last one reported = record {
  answered = λ zero. absurd (omega (arith, zero, one));
  begun = λ _. not_begun old;
  failed = λ _. record {
    failure = Refused OutOfMemory;
    why = inl (refl, refl, (refl, refl));
    is = one;
    reported = reported;
  };
}
