-- The errors of `eval`.
use Rattle.std.proofs.Common.{ℕ, List, Option, inr}
use Rattle.mtxkit_eval.specs.declared.error.EvalError.{EvalError}
use Rattle.mtxkit_eval.specs.declared.error.EvalError.TheVariants as eval
use Rattle.mtxkit_commands.specs.Failures.{IsEvalError, IsEvalFault}
use Rattle.mtxkit_commands.specs.CommandFaults.{eval_fault}
use Rattle.file_readings.specs.Readings.{Reading}

-- the error of the command for an error of evaluating the expression
pub eval-error : (modulus : Option ℕ) (words : List ℕ) (files : List (List ℕ)) (old new : List Reading)
    (error : EvalError) → IsEvalFault modulus words files old new error
    → IsEvalError modulus words files old new (eval_fault error)
eval-error modulus words files old new (eval.Failed failure) why = inr (inr why)
eval-error modulus words files old new (eval.Expression error) why = why
eval-error modulus words files old new (eval.Wide row col) why = why
eval-error modulus words files old new eval.Unbounded why = why
