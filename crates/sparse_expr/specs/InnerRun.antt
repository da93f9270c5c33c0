-- The errors of the steps of a run, and the text of a matrix.
use Rattle.std.specs.Prelude.{◌≡◌, ℕ, ℤ, ◌+◌, ◌++◌, List, codes, Some}
use Rattle.std.specs.Fmt.{signed_decimal}
use Rattle.sparse_algebra.specs.Numbers.{w64_number}
use Rattle.sparse_algebra.specs.declared.scalar.wrapping.W64.{W64}
use Rattle.sparse_coo_dense.specs.Coo.{Coo}
use Rattle.sparse_parser.specs.Meaning.{values_of}
use Rattle.sparse_io.specs.Written.{text_of}
use Rattle.sparse_expr.specs.declared.error.ExprError.{ExprError}
use Rattle.sparse_expr.specs.declared.error.ExprError.TheVariants as refusal
use Rattle.sparse_expr.specs.Run.{AllMean, Effect, IsFirstRefused}

-- the errors of loading texts
abbrev pub RefusesLoad : List (List ℕ) → ExprError → Type 0
RefusesLoad texts (refusal.Input number kind) = IsFirstRefused texts number kind
RefusesLoad texts refusal.OutOfMemory = Unit {0}
RefusesLoad texts _ = ⊥

-- all texts before `rest` were loaded, in order, as these lists
pub record IsLoadedBefore (texts rest : List (List ℕ)) (ms : List (Coo ℤ)) : Type 0 where
  pub before : List (List ℕ)
  pub split : texts ≡ before ++ rest
  pub meant : AllMean before ms

-- the errors of writing a matrix
abbrev pub RefusesSave : Effect → ExprError → Type 0
RefusesSave e (refusal.Write kind) = (e.failures ≡ e.failures_before + 1) × (e.last ≡ Some kind)
RefusesSave e refusal.OutOfMemory = e.failures ≡ e.failures_before
RefusesSave e _ = ⊥

-- the text of a list of triplets
abbrev pub text_of_coo : Coo W64 → List ℕ
text_of_coo m = text_of (codes "integer") (λ x. signed_decimal (w64_number x)) m

-- a list of triplets with its values as integers
abbrev pub numbers_of : Coo W64 → Coo ℤ
numbers_of m = values_of w64_number m
