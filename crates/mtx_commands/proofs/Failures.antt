-- What follows from why a command fails: whether its words are a command, and how many writes failed.
use Rattle.std.proofs.Common.{◌≡◌, ◌≢◌, ◌⊎◌, ◌↔◌, ℕ, List, Option, inl, inr, refl, arith}
use Rattle.std.specs.declared.io.ErrorKind.{ErrorKind}
use Rattle.nalgebra_sparse.specs.Run.{Effect, RefusesRun}
use Rattle.sparse_expr.specs.declared.calculator.Form.{Form}
use Rattle.sparse_expr.specs.declared.error.ExprError.{ExprError}
use Rattle.sparse_expr.specs.declared.error.ExprError.TheVariants.{Input, Write, OutOfMemory}
use Rattle.sparse_expr.specs.declared.error.ExprError.TheVariants.{NoSuchInput, Shape}
use Rattle.sparse_expr.specs.declared.expr.Expr.{Expr}
use Rattle.file_readings.specs.Readings.{Reading}
use Rattle.mtx_commands.specs.Commands.{IsCommand, status_of}
use Rattle.mtx_commands.specs.Failures.{CanFail, IsUnevaluated, IsUnfilled, IsWrongUsage}
use Rattle.mtx_commands.specs.Fills.{IsFillFault}
use Rattle.mtx_commands.specs.Writes.{FailsOnce, IsUnwritten}
use Rattle.mtx_commands.specs.declared.cli.Failure.{Failure}
use Rattle.mtx_commands.specs.declared.cli.Failure.TheVariants.{Usage, NotSquare, Refused}

-- ---- failed writes

fails_once-unwritten : (before after : ℕ) (last : Option ErrorKind) (failure : Failure)
    → IsUnwritten before after last failure → FailsOnce before after
fails_once-unwritten before after last (Refused OutOfMemory) why = inl why
fails_once-unwritten before after last (Refused (Write kind)) why = inr why.0
fails_once-unwritten before after last failure why = absurd why

module _ (e : Effect) where
  fails_once-run : (form : Form) (texts : List (List ℕ)) (expr : Expr) (error : ExprError)
      → RefusesRun form texts expr e error → FailsOnce e.failures_before e.failures
  fails_once-run form texts expr (Input number kind) why = inl why.1.1
  fails_once-run form texts expr (Write kind) why = inr why.1
  fails_once-run form texts expr OutOfMemory why = inl why.0
  fails_once-run form texts expr NoSuchInput why = inl why.1.1
  fails_once-run form texts expr Shape why = inl why.1.1
  fails_once-run form texts expr error why = absurd why

  fails_once-unevaluated : (form : Form) (expression : List ℕ) (paths : List (List ℕ))
      (before after : List Reading) (failure : Failure)
      → IsUnevaluated form expression paths before after e failure
      → FailsOnce e.failures_before e.failures
  fails_once-unevaluated form expression paths before after failure (inl memory) = inl memory.2.1
  fails_once-unevaluated form expression paths before after failure (inr (inl words)) =
      inl words.untouched.1
  fails_once-unevaluated form expression paths before after failure (inr (inr (inl unread))) =
      inl unread.1.1
  fails_once-unevaluated form expression paths before after failure (inr (inr (inr run))) =
      fails_once-run form run.sources run.expr run.error run.refused

  fails_once-fault : (text : List ℕ) (failure : Failure) → IsFillFault text e failure
      → FailsOnce e.failures_before e.failures
  fails_once-fault text failure (inl misread) = inl misread.1.1
  fails_once-fault text failure (inr (inl oblong)) = inl oblong.2.1
  fails_once-fault text failure (inr (inr unwritten)) =
      fails_once-unwritten e.failures_before e.failures e.last failure unwritten

  fails_once-unfilled : (path : List ℕ) (before after : List Reading) (failure : Failure)
      → IsUnfilled path before after e failure → FailsOnce e.failures_before e.failures
  fails_once-unfilled path before after failure (inl unread) = inl unread.1.1
  fails_once-unfilled path before after failure (inr (text, read, fault)) =
      fails_once-fault text failure fault

  pub fails_once : (words : List (List ℕ)) (before after : List Reading) (failure : Failure)
      → CanFail words before after e failure → FailsOnce e.failures_before e.failures
  fails_once words before after failure (inl wrong) = inl wrong.untouched.1
  fails_once words before after failure (inr (inl value)) = fails_once-unevaluated value.asked.form
      value.asked.expression value.asked.paths before after failure value.why
  fails_once words before after failure (inr (inr fill)) =
      fails_once-unfilled fill.path before after failure fill.why

-- ---- usage

proper-unwritten : (before after : ℕ) (last : Option ErrorKind) (failure : Failure)
    → IsUnwritten before after last failure → failure ≢ Usage
proper-unwritten before after last Usage why = absurd why
proper-unwritten before after last NotSquare why = λ u. absurd (cc)
proper-unwritten before after last (Refused error) why = λ u. absurd (cc)

module _ (e : Effect) (before after : List Reading) (failure : Failure) where
  proper-unevaluated : (form : Form) (expression : List ℕ) (paths : List (List ℕ))
      → IsUnevaluated form expression paths before after e failure → failure ≢ Usage
  proper-unevaluated form expression paths (inl memory) = λ u. absurd (cc memory.0)
  proper-unevaluated form expression paths (inr (inl words)) = λ u. absurd (cc words.is)
  proper-unevaluated form expression paths (inr (inr (inl (inl memory, untouched)))) =
      λ u. absurd (cc memory.0)
  proper-unevaluated form expression paths (inr (inr (inl (inr first, untouched)))) =
      λ u. absurd (cc first.unread.2)
  proper-unevaluated form expression paths (inr (inr (inr run))) = λ u. absurd (cc run.is)

  proper-unfilled : (path : List ℕ) → IsUnfilled path before after e failure → failure ≢ Usage
  proper-unfilled path (inl (unread, untouched)) = λ u. absurd (cc unread.2)
  proper-unfilled path (inr (text, read, inl (misread, untouched))) = λ u. absurd (cc misread.is)
  proper-unfilled path (inr (text, read, inr (inl oblong))) = λ u. absurd (cc oblong.0)
  proper-unfilled path (inr (text, read, inr (inr unwritten))) =
      proper-unwritten e.failures_before e.failures e.last failure unwritten

  -- the words are wrong usage, or a command that fails otherwise
  pub usage_or_command : (words : List (List ℕ)) → CanFail words before after e failure
      → IsWrongUsage words before after e failure ⊎ ((failure ≢ Usage) × IsCommand words)
  usage_or_command words (inl wrong) = inl wrong
  usage_or_command words (inr (inl value)) = inr (
    proper-unevaluated value.asked.form value.asked.expression value.asked.paths value.why,
    inl value.asked,
  )
  usage_or_command words (inr (inr fill)) = inr (
    proper-unfilled fill.path fill.why,
    inr (fill.triangle, fill.path, fill.asked),
  )

pub status_of-positive : (failure : Failure) → status_of failure ≢ 0
status_of-positive Usage = λ e. absurd (omega (arith, e))
status_of-positive NotSquare = λ e. absurd (omega (arith, e))
status_of-positive (Refused error) = λ e. absurd (omega (arith, e))

status_of-two : (failure : Failure) → status_of failure ≡ 2 → failure ≡ Usage
status_of-two Usage e = refl
status_of-two NotSquare e = absurd (omega (arith, e))
status_of-two (Refused error) e = absurd (omega (arith, e))

-- the status of a failure is 2 exactly if the words are not a command
pub status_of-usage : (e : Effect) (before after : List Reading) (failure : Failure)
    (words : List (List ℕ)) → CanFail words before after e failure
    → (status_of failure ≡ 2) ↔ ¬ IsCommand words
status_of-usage e before after failure words why =
    elim (usage_or_command e before after failure words why) [
      | inl wrong ↦ (λ two. wrong.wrong, λ no. rw wrong.is refl)
      | inr (proper, command) ↦
          (λ two. absurd (proper (status_of-two failure two)), λ no. absurd (no command))
    ]

-- wrong usage writes nothing
pub unanswered-usage : (e : Effect) (before after : List Reading) (failure : Failure)
    (words : List (List ℕ)) → CanFail words before after e failure → status_of failure ≡ 2
    → e.accepted ≡ e.accepted_before
unanswered-usage e before after failure words why two =
    elim (usage_or_command e before after failure words why) [
      | inl wrong ↦ wrong.untouched.0
      | inr (proper, command) ↦ absurd (proper (status_of-two failure two))
    ]
