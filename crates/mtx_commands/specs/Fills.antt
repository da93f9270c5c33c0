-- What `mtx fill` writes.
use Rattle.std.specs.Prelude.{◌≡◌, ◌≢◌, ◌⊎◌, ℕ, ◌↔◌, List, [], codes, Option, Ok}
use Rattle.std.specs.Io.KnownBytes.{Appends}
use Rattle.nalgebra_sparse.specs.Coo.{Coo}
use Rattle.nalgebra_sparse.specs.Compressed.{Compressed}
use Rattle.nalgebra_sparse.specs.Meaning.{Means}
use Rattle.nalgebra_sparse.specs.OneMatrix.{coo_of_cols}
use Rattle.nalgebra_sparse.specs.Raw.{Raw, IsEntry}
use Rattle.nalgebra_sparse.specs.Run.{Effect, IsUntouched}
use Rattle.nalgebra_sparse.specs.ScalarTypes.{pattern_scalar}
use Rattle.nalgebra_sparse.specs.Symbolic.{Symbolic, IsFactorOf}
use Rattle.nalgebra_sparse.specs.Written.{text_of}
use Rattle.sparse_factor.specs.declared.factorization.Triangle.{Triangle}
use Rattle.mtx_commands.specs.Inputs.{IsMisread}
use Rattle.mtx_commands.specs.TripletPatterns.{HasTriplet}
use Rattle.mtx_commands.specs.Writes.{IsUnwritten}
use Rattle.mtx_commands.specs.declared.cli.Failure.{Failure}
use Rattle.mtx_commands.specs.declared.cli.Failure.TheVariants.{NotSquare}

-- the text means a list of triplets, and the pattern, which is stored by columns, has the shape of
-- the list and exactly the rows and columns of its triplets
pub record MeansPattern (text : List ℕ) (pattern : Raw) : Type 0 where
  pub list : Coo (Unit {0})
  pub meant : Means pattern_scalar text (Ok list)
  pub rows : pattern.minor_dim ≡ list.nrows
  pub columns : pattern.major_dim ≡ list.ncols
  pub entries : (i j : ℕ) → IsEntry pattern j i ↔ HasTriplet list i j

-- the text means a list of triplets of a matrix that is not square
pub record MeansOblong (text : List ℕ) : Type 0 where
  pub list : Coo (Unit {0})
  pub meant : Means pattern_scalar text (Ok list)
  pub oblong : list.nrows ≢ list.ncols

-- the text of a matrix with this pattern and no values was appended, column by column
pub record WritesPattern (pattern : Raw) (old new : Option (List ℕ)) : Type 0 where
  pub matrix : Compressed (Unit {0})
  pub has : matrix.pattern ≡ pattern
  pub appended : Appends old new (text_of (codes "pattern") (λ x. []) (coo_of_cols matrix))

-- the pattern of the factor of this triangle of the pattern that a text means was written
pub record WritesFill (triangle : Triangle) (text : List ℕ) (old new : Option (List ℕ)) : Type 0
  where
    pub symbolic : Symbolic
    pub read : MeansPattern text symbolic.input
    pub factor : IsFactorOf triangle symbolic
    pub written : WritesPattern symbolic.factor old new

-- why the pattern that a text means has no fill that is written: the text is not that of a pattern,
-- the matrix is not square, or the fill was not written; `effect` is what was done to the output
abbrev pub IsFillFault : List ℕ → Effect → Failure → Type 0
IsFillFault text effect failure = (IsMisread text failure × IsUntouched effect)
    ⊎ (((failure ≡ NotSquare) × MeansOblong text × IsUntouched effect)
    ⊎ IsUnwritten effect.failures_before effect.failures effect.last failure)
