-- What the words of a command line ask for, and what a command reads and writes.
use Rattle.std.specs.Prelude.{◌≡◌, ◌<◌, ◌⊎◌, ℕ, List, [], ◌∷◌, length, codes, Option}
use Rattle.std.specs.declared.io.ErrorKind.{ErrorKind}
use Rattle.std.specs.declared.io.ErrorKind.TheVariants as io
use Rattle.nalgebra_sparse.specs.PostfixWords.{words_of, IsSaid}
use Rattle.nalgebra_sparse.specs.Run.{Writes}
use Rattle.sparse_expr.specs.declared.expr.Expr.{Expr}
use Rattle.sparse_expr.specs.declared.calculator.Form.{Form}
use Rattle.sparse_expr.specs.declared.calculator.Form.TheVariants.{Rows, Cols}
use Rattle.sparse_expr.specs.declared.error.ExprError.TheVariants.{OutOfMemory}
use Rattle.sparse_factor.specs.declared.factorization.Triangle.{Triangle}
use Rattle.sparse_factor.specs.declared.factorization.Triangle.TheVariants.{Upper, Lower, Both}
use Rattle.file_readings.specs.Readings.{Reading, AreRead}
use Rattle.file_readings.specs.Reads.{ReadsOne}
use Rattle.mtx_commands.specs.Fills.{WritesFill}
use Rattle.mtx_commands.specs.declared.cli.Failure.{Failure}
use Rattle.mtx_commands.specs.declared.cli.Failure.TheVariants as failure

-- the files were read in order, and no other, and the text of the value of the expression over
-- their texts was appended to the output
pub record IsEvaluated (form : Form) (expression : List ℕ) (paths : List (List ℕ))
    (before after : List Reading) (old new : Option (List ℕ)) : Type 0 where
  pub sources : List (List ℕ)
  pub expr : Expr
  pub read : AreRead paths sources before after
  pub said : IsSaid (words_of expression) expr
  pub written : Writes form sources expr old new

-- the words are the name of the order, an expression and files, and the expression's value over
-- these files was written
pub record IsCalculated (form : Form) (order : List ℕ) (words : List (List ℕ))
    (before after : List Reading) (old new : Option (List ℕ)) : Type 0 where
  pub expression : List ℕ
  pub paths : List (List ℕ)
  pub split : words ≡ order ∷ (expression ∷ paths)
  pub some : 0 < length paths
  pub evaluated : IsEvaluated form expression paths before after old new

-- the word for an order of the result
abbrev pub name_of : Form → List ℕ
name_of Rows = codes "rows"
name_of Cols = codes "cols"

-- the word for a triangle
abbrev pub triangle_name : Triangle → List ℕ
triangle_name Upper = codes "upper"
triangle_name Lower = codes "lower"
triangle_name Both = codes "both"

-- the words ask for the fill of this triangle of the matrix in a file: `fill`, the triangle's word
-- and the file, or `fill` and the file for the upper triangle
abbrev pub AsksFill : Triangle → List ℕ → List (List ℕ) → Type 0
AsksFill triangle path words = (words ≡ codes "fill" ∷ (triangle_name triangle ∷ (path ∷ [])))
    ⊎ ((triangle ≡ Upper) × (words ≡ codes "fill" ∷ (path ∷ [])))

-- the words ask for the value of an expression over files
pub record AsksValue (words : List (List ℕ)) : Type 0 where
  pub form : Form
  pub expression : List ℕ
  pub paths : List (List ℕ)
  pub split : words ≡ name_of form ∷ (expression ∷ paths)
  pub some : 0 < length paths

-- the words are a command: they ask for a value or for a fill
abbrev pub IsCommand : List (List ℕ) → Type 0
IsCommand words = AsksValue words
    ⊎ ((triangle : Triangle) × (path : List ℕ) × AsksFill triangle path words)

-- the words ask for the fill of a triangle of the matrix in a file, which was read, and no other,
-- and that of its text was written
pub record IsFilled (words : List (List ℕ)) (before after : List Reading)
    (old new : Option (List ℕ)) : Type 0 where
  pub triangle : Triangle
  pub path : List ℕ
  pub asked : AsksFill triangle path words
  pub filled : ReadsOne path (λ text. WritesFill triangle text old new) before after

-- the words ask for the value of an expression or for a fill, and that of the texts of their files
-- was written
abbrev pub IsAnswered : List (List ℕ) → List Reading → List Reading → Option (List ℕ)
    → Option (List ℕ) → Type 0
IsAnswered words before after old new =
    ((form : Form) × IsCalculated form (name_of form) words before after old new)
    ⊎ IsFilled words before after old new

-- the exit status of a failure
abbrev pub status_of : Failure → ℕ
status_of failure.Usage = 2
status_of failure.NotSquare = 1
status_of (failure.Refused error) = 1

-- the failure for an error of this kind in reading the arguments
abbrev pub argument_fault : ErrorKind → Failure
argument_fault io.OutOfMemory = failure.Refused OutOfMemory
argument_fault kind = failure.Usage
