use Rattle.std.proofs.Common.{◌≡◌, ◌⊎◌, Result, Ok, Err, IfOk, drop, map, string_bytes, subst}
use Rattle.std.specs.Vec.Iter.{into_iter_items}
use Rattle.sparse_expr.specs.declared.error.ExprError.TheVariants.{OutOfMemory}
use Rattle.mtx_commands.specs.Commands.{IsCommand}
use Rattle.mtx_commands.specs.Reports.{IsReported}
use Rattle.mtx_commands.specs.declared.cli.Failure.TheVariants.{Refused}
use Rattle.mtx_commands.proofs.arguments.run_args.Goals as goal

-- what holds of the items of a value
IfOk-items : {A E X : Type 0} (r : Result A E) (items : A → X) (P : X → Type 0) (x : X)
    → IfOk r (λ a. x ≡ items a) → P x → IfOk r (λ a. P (items a))
IfOk-items (Ok a) items P x is holds = subst P is holds
IfOk-items (Err e) items P x is holds = tt

pub returns-in-Ok-clause-usage : goal.returns-in-Ok-clause-usage
returns-in-Ok-clause-usage g c =
    IfOk-items c.args.arguments (λ args. into_iter_items args)
    (λ items. c.run_words.result ≡ 2 → ¬ IsCommand (drop 1 (map string_bytes items))) _
    c.in-Ok.ensures.given (rw c.deref.ensures.value at c.run_words.ensures.usage)

pub returns-in-Ok-clause-no_command : goal.returns-in-Ok-clause-no_command
returns-in-Ok-clause-no_command g c =
    IfOk-items c.args.arguments (λ args. into_iter_items args)
    (λ items. ¬ IsCommand (drop 1 (map string_bytes items))
    → (c.run_words.result ≡ 2) ⊎ ((c.run_words.result ≡ 1)
    × IsReported (Refused OutOfMemory) (g.E.Sink.accepted c.args.err.now)
    (g.E.Sink.accepted c.run_words.new.err) (g.E.Sink.failures c.args.err.now)
    (g.E.Sink.failures c.run_words.new.err))) _
    c.in-Ok.ensures.given (rw c.deref.ensures.value at c.run_words.ensures.no_command)
