use Rattle.std.proofs.Common.{◌≡◌, ℕ, List, Result, Ok, Err, IfErr, inr, map, string_bytes}
use Rattle.nalgebra_sparse.specs.PostfixWords.{texts, words_of, IsSaid}
use Rattle.nalgebra_sparse.specs.Run.{Effect, RefusesRun}
use Rattle.sparse_expr.specs.declared.calculator.Form.{Form}
use Rattle.sparse_expr.specs.declared.error.ExprError.{ExprError}
use Rattle.sparse_expr.specs.declared.expr.Expr.{Expr}
use Rattle.file_readings.specs.Readings.{Reading, AreRead}
use Rattle.mtx_commands.specs.Failures.{IsUnevaluated}
use Rattle.mtx_commands.specs.declared.cli.Failure.{Failure}
use Rattle.mtx_commands.specs.declared.cli.Failure.TheVariants.{Refused}
use Rattle.mtx_commands.proofs.evaluate.evaluate.Goals as goal

-- the failure of the run over the texts that were read
IsUnevaluated-run : {T : Type 0} (r : Result T Failure) (form : Form) (expression : List ℕ)
    (paths sources : List (List ℕ)) (expr : Expr) (before after : List Reading) (e : Effect)
    → AreRead paths sources before after → IsSaid (words_of expression) expr
    → IfErr r (λ f. (error : ExprError) × (f ≡ Refused error) × RefusesRun form sources expr e error)
    → IfErr r (IsUnevaluated form expression paths before after e)
IsUnevaluated-run (Ok x) form expression paths sources expr before after e read said why = tt
IsUnevaluated-run (Err f) form expression paths sources expr before after e read said why =
    inr (inr (inr (record {
      sources = sources;
      expr = expr;
      error = why.0;
      is = why.1;
      read = read;
      said = said;
      refused = why.2;
    })))

pub returns-clause-failed : goal.returns-clause-failed
returns-clause-failed g c =
    IsUnevaluated-run c.write_value.result c.args.form c.args.expression.now (texts c.args.paths.now)
    (map string_bytes c.in_ok-contents.contents.items) c.in_ok-expr.expr _ _ _
    c.in_ok-contents.ensures.read c.in_ok-expr.ensures.said c.write_value.ensures.failed
