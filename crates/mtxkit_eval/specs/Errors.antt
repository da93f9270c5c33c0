-- The errors for those of parsing or evaluating an expression.
use Rattle.sparse_expr.specs.declared.error.ExprError.{ExprError}
use Rattle.sparse_expr.specs.declared.error.ExprError.TheVariants as expression
use Rattle.mtxkit_texts.specs.declared.failure.Failure.TheVariants.{OutOfMemory}
use Rattle.mtxkit_eval.specs.declared.error.EvalError.{EvalError}
use Rattle.mtxkit_eval.specs.declared.error.EvalError.TheVariants.{Failed, Expression}

abbrev pub expression_fault : ExprError → EvalError
expression_fault expression.OutOfMemory = Failed OutOfMemory
expression_fault error = Expression error
