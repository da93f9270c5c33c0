-- The errors of commands for errors of orders and of expressions.
use Rattle.mtxkit_eval.specs.declared.error.EvalError.{EvalError}
use Rattle.mtxkit_eval.specs.declared.error.EvalError.TheVariants as eval
use Rattle.mtxkit_patterns.specs.declared.order_error.OrderError.{OrderError}
use Rattle.mtxkit_patterns.specs.declared.order_error.OrderError.TheVariants as order
use Rattle.mtxkit_commands.specs.declared.command_error.CommandError.{CommandError}
use Rattle.mtxkit_commands.specs.declared.command_error.CommandError.TheVariants.{Failed}
use Rattle.mtxkit_commands.specs.declared.command_error.CommandError.TheVariants.{Misordered}
use Rattle.mtxkit_commands.specs.declared.command_error.CommandError.TheVariants.{Unevaluated}

-- an error of an order, or of the matrix that it is for
abbrev pub order_fault : OrderError → CommandError
order_fault (order.Failed failure) = Failed failure
order_fault error = Misordered error

-- an error of evaluating an expression
abbrev pub eval_fault : EvalError → CommandError
eval_fault (eval.Failed failure) = Failed failure
eval_fault error = Unevaluated error
