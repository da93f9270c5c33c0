-- The texts of a run and the text of its value, and the errors of a run.
use Rattle.std.specs.Prelude.{◌≡◌, ◌⊎◌, ℕ, ℤ, ◌+◌, List, [], ◌∷◌, ◌++◌, map, length, codes, Result}
use Rattle.std.specs.Prelude.{Ok, Err, Option, Some}
use Rattle.std.specs.Int.{w64}
use Rattle.std.specs.Fmt.{signed_decimal}
use Rattle.std.specs.declared.io.ErrorKind.{ErrorKind}
use Rattle.std.specs.Io.KnownBytes.{Appends}
use Rattle.sparse_algebra.specs.Algebra.{CommRing}
use Rattle.sparse_algebra.specs.Wrapping.{wrapping_ring, class_of}
use Rattle.sparse_algebra.specs.Whole.{number_of}
use Rattle.sparse_coo_dense.specs.Coo.{Coo}
use Rattle.sparse_algebra.specs.Plain.{Plain, row_order}
use Rattle.sparse_compressed.specs.ColumnOrder.{col_order}
use Rattle.sparse_coo_dense.specs.CooPlain.{plain_of_coo}
use Rattle.sparse_parser.specs.Scalars.{Scalar}
use Rattle.sparse_parser.specs.Meaning.{Means}
use Rattle.sparse_market_scalar.specs.ScalarTypes.{wrapping_scalar}
use Rattle.sparse_io.specs.Sink.{AppendsSome}
use Rattle.sparse_io.specs.Written.{written_text}
use Rattle.sparse_parser.specs.declared.error.MatrixMarketErrorKind.{MatrixMarketErrorKind}
use Rattle.sparse_expr.specs.declared.expr.Expr.{Expr}
use Rattle.sparse_expr.specs.declared.error.ExprError.{ExprError}
use Rattle.sparse_expr.specs.declared.error.ExprError.TheVariants as refusal
use Rattle.sparse_expr.specs.declared.calculator.Form.{Form}
use Rattle.sparse_expr.specs.declared.calculator.Form.TheVariants.{Rows, Cols}
use Rattle.sparse_expr.specs.Value.{value_of}

-- the integers modulo 2^64
abbrev pub ring64 : CommRing
ring64 = wrapping_ring w64

-- a ring element in signed form, in decimal
abbrev pub element_text : ring64.Carrier → List ℕ
element_text c = signed_decimal (number_of w64 c)

-- the text of a plain matrix, with its entries row by row or column by column
abbrev pub text_in : Form → Plain ring64 → List ℕ
text_in Rows a = written_text (codes "integer") element_text a.rows a.cols (row_order ring64 a)
text_in Cols a = written_text (codes "integer") element_text a.rows a.cols (col_order ring64 a)

-- integers that wrap modulo 2^64, as values of texts
abbrev pub scalar64 : Scalar
scalar64 = wrapping_scalar w64

-- each text means its list of triplets
abbrev pub AllMean : List (List ℕ) → List (Coo ℤ) → Type 0
AllMean [] [] = Unit {0}
AllMean (text ∷ texts) (m ∷ ms) = Means scalar64 text (Ok m) × AllMean texts ms
AllMean _ _ = ⊥

-- the text with this number, counted from 1, is the first with an error, and this is its kind
pub record IsFirstRefused (texts : List (List ℕ)) (number : ℕ) (kind : MatrixMarketErrorKind) : Type
    0 where
  pub before : List (List ℕ)
  pub text : List ℕ
  pub after : List (List ℕ)
  pub ms : List (Coo ℤ)
  pub split : texts ≡ before ++ text ∷ after
  pub counted : number ≡ length before + 1
  pub accepted : AllMean before ms
  pub refused : Means scalar64 text (Err kind)

-- lists of triplets as plain matrices, their numbers read modulo 2^64
abbrev pub plains : List (Coo ℤ) → List (Plain ring64)
plains ms = map (λ m. plain_of_coo ring64 (class_of w64) m) ms

-- the texts have meanings, over which the expression has this value or this error
pub record HasOutcome (texts : List (List ℕ)) (expr : Expr)
    (outcome : Result (Plain ring64) ExprError) : Type 0 where
  pub ms : List (Coo ℤ)
  pub meant : AllMean texts ms
  pub evaluated : value_of ring64 (plains ms) expr ≡ outcome

-- the text of the expression's value was appended
pub record Writes (order : Form) (texts : List (List ℕ)) (expr : Expr) (old new : Option (List ℕ)) :
    Type 0 where
  pub value : Plain ring64
  pub is_value : HasOutcome texts expr (Ok value)
  pub appended : Appends old new (text_in order value)

-- a prefix of the text of the expression's value was appended
pub record WritesSome (order : Form) (texts : List (List ℕ)) (expr : Expr)
    (old new : Option (List ℕ)) : Type 0 where
  pub value : Plain ring64
  pub is_value : HasOutcome texts expr (Ok value)
  pub appended : AppendsSome old new (text_in order value)

-- what a call did to its sink: the bytes accepted, the number of failed writes, and the kind of the
-- last of these
pub record Effect : Type 0 where
  pub accepted_before : Option (List ℕ)
  pub accepted : Option (List ℕ)
  pub failures_before : ℕ
  pub failures : ℕ
  pub last : Option ErrorKind

-- the effect of a call, from what contracts cite of the sink before and after it
abbrev pub effect : Option (List ℕ) → Option (List ℕ) → ℕ → ℕ → Option ErrorKind → Effect
effect accepted_before accepted failures_before failures last =
    record {
      accepted_before = accepted_before;
      accepted = accepted;
      failures_before = failures_before;
      failures = failures;
      last = last;
    }

-- no byte was written, and no write failed
abbrev pub IsUntouched : Effect → Type 0
IsUntouched e = (e.accepted ≡ e.accepted_before) × (e.failures ≡ e.failures_before)

-- the errors of a run, and what it has written in each case
abbrev pub RefusesRun : Form → List (List ℕ) → Expr → Effect → ExprError → Type 0
RefusesRun order texts expr e (refusal.Input number kind) = IsFirstRefused texts number kind
    × IsUntouched e
RefusesRun order texts expr e refusal.NoSuchInput = HasOutcome texts expr (Err refusal.NoSuchInput)
    × IsUntouched e
RefusesRun order texts expr e refusal.Shape = HasOutcome texts expr (Err refusal.Shape)
    × IsUntouched e
RefusesRun order texts expr e (refusal.Write kind) = WritesSome order texts expr e.accepted_before
    e.accepted × (e.failures ≡ e.failures_before + 1) × (e.last ≡ Some kind)
RefusesRun order texts expr e refusal.OutOfMemory = (e.failures ≡ e.failures_before)
    × ((e.accepted ≡ e.accepted_before) ⊎ WritesSome order texts expr e.accepted_before e.accepted)
RefusesRun order texts expr e _ = ⊥
