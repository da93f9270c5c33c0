-- The text of the value of an expression over the texts of files.
use Rattle.std.specs.Prelude.{◌≡◌, ◌⊎◌, ◌+◌, ℕ, List, ◌∷◌, ◌++◌, Option, Some, None, length, codes}
use Rattle.std.specs.Fmt.{signed_decimal}
use Rattle.std.specs.List.{AllZip}
use Rattle.sparse_algebra.specs.Moduli.{mod_ring}
use Rattle.sparse_algebra.specs.WrappingValues.{w128_number}
use Rattle.sparse_algebra.specs.declared.scalar.wide.W128.{W128}
use Rattle.sparse_compressed.specs.Compressed.{Compressed}
use Rattle.sparse_compressed.specs.TransposedMatrix.{IsTranspose}
use Rattle.sparse_convert.specs.OneMatrix.{coo_of_rows, coo_of_cols}
use Rattle.sparse_coo_dense.specs.Coo.{Coo}
use Rattle.sparse_io.specs.Written.{text_with}
use Rattle.sparse_io.specs.declared.banner.Banner.TheVariants.{MixedCase}
use Rattle.sparse_expr.specs.PostfixWords.{words_of, IsSaid, IsRefused}
use Rattle.sparse_expr.specs.declared.calculator.Form.{Form}
use Rattle.sparse_expr.specs.declared.calculator.Form.TheVariants.{Rows, Cols}
use Rattle.sparse_expr.specs.declared.expr.Expr.{Expr}
use Rattle.mtxkit_texts.specs.Loaded.{MeansWhole, IsWholeFailure}
use Rattle.mtxkit_texts.specs.declared.failure.Failure.{Failure}
use Rattle.mtxkit_texts.specs.declared.failure.Failure.TheVariants.{OutOfMemory}
use Rattle.mtxkit_eval.specs.Rings.{reduced_modulo}
use Rattle.mtxkit_eval.specs.Values.{exact_value, HasExactValue, HasValue, HasNoResidues, IsInexact}
use Rattle.mtxkit_eval.specs.declared.error.EvalError.{EvalError}
use Rattle.mtxkit_eval.specs.declared.error.EvalError.TheVariants.{Failed, Expression}

-- the text means the matrix, with exact sums
abbrev pub IsMeantBy : List ℕ → Compressed W128 → Type 0
IsMeantBy text m = (entries : ℕ) × MeansWhole text entries m

-- each text means its matrix
abbrev pub AllMeanWhole : List (List ℕ) → List (Compressed W128) → Type 0
AllMeanWhole texts ms = AllZip IsMeantBy texts ms

-- ---- texts

-- the text of a list of triplets
abbrev pub text_of_list : Coo W128 → List ℕ
text_of_list list = text_with MixedCase (codes "integer") (λ v. signed_decimal (w128_number v)) list

-- the text of the matrix, row by row or column by column
abbrev pub HasText : Form → Compressed W128 → List ℕ → Type 0
HasText Rows m written = written ≡ text_of_list (coo_of_rows m)
HasText Cols m written = (n : Compressed W128) × IsTranspose m n × (written ≡ text_of_list (coo_of_cols n))

-- ---- values

-- the matrix has the value of the expression over the integers, or its remainders by a modulus
abbrev pub HasValueBy : Option ℕ → List (Compressed W128) → Expr → Compressed W128 → Type 0
HasValueBy None ms expr m = HasExactValue (exact_value ms expr) m
HasValueBy (Some p) ms expr m = HasValue (mod_ring p) (reduced_modulo p) (exact_value ms expr) m

abbrev pub IsValueFailure : Option ℕ → List (Compressed W128) → Expr → EvalError → Type 0
IsValueFailure None ms expr error = IsInexact ms expr error
IsValueFailure (Some p) ms expr error = HasNoResidues p ms expr error

-- the text of the value of the expression that the words denote, over the matrices that the texts mean
pub record WritesValue (modulus : Option ℕ) (order : Form) (words : List ℕ)
    (texts : List (List ℕ)) (written : List ℕ) : Type 0 where
  pub expr : Expr
  pub inputs : List (Compressed W128)
  pub value : Compressed W128
  pub said : IsSaid (words_of words) expr
  pub meant : AllMeanWhole texts inputs
  pub is : HasValueBy modulus inputs expr value
  pub text : HasText order value written

-- ---- errors

-- an allocation failed, or the words denote no expression
abbrev pub IsUnparsed : List ℕ → EvalError → Type 0
IsUnparsed words (Failed failure) = failure ≡ OutOfMemory
IsUnparsed words (Expression error) = IsRefused (words_of words) error
IsUnparsed words error = ⊥

-- an allocation failed, or the failure is that of the first text that means no matrix with exact sums
pub record IsFirstFailed (texts : List (List ℕ)) (failure : Failure) : Type 0 where
  pub before : List (List ℕ)
  pub text : List ℕ
  pub after : List (List ℕ)
  pub inputs : List (Compressed W128)
  pub split : texts ≡ before ++ text ∷ after
  pub meant : AllMeanWhole before inputs
  pub failed : IsWholeFailure (length before + 1) text failure

abbrev pub IsFirstMisread : List (List ℕ) → Failure → Type 0
IsFirstMisread texts failure = (failure ≡ OutOfMemory) ⊎ IsFirstFailed texts failure

-- the words denote an expression, and the failure is that of the first text that is misread
pub record IsMisread (words : List ℕ) (texts : List (List ℕ)) (error : EvalError) : Type 0 where
  pub expr : Expr
  pub failure : Failure
  pub said : IsSaid (words_of words) expr
  pub is : error ≡ Failed failure
  pub first : IsFirstMisread texts failure

-- the expression that the words denote has no value over the matrices that the texts mean
pub record HasNoValue (modulus : Option ℕ) (words : List ℕ) (texts : List (List ℕ)) (error : EvalError)
    : Type 0 where
  pub expr : Expr
  pub inputs : List (Compressed W128)
  pub said : IsSaid (words_of words) expr
  pub meant : AllMeanWhole texts inputs
  pub why : IsValueFailure modulus inputs expr error

-- why `eval_text` fails
abbrev pub IsEvalFailure : Option ℕ → List ℕ → List (List ℕ) → EvalError → Type 0
IsEvalFailure modulus words texts error =
    (error ≡ Failed OutOfMemory) ⊎ (IsUnparsed words error
    ⊎ (IsMisread words texts error ⊎ HasNoValue modulus words texts error))
