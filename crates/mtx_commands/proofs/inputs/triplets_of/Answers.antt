use Rattle.std.proofs.Common.{◌≡◌, ◌⊎◌, ℕ, List, Result, Ok, Err, IfErr, IsErrAnd, string_bytes, inl, inr, subst}
use Rattle.sparse_parser.specs.declared.error.MatrixMarketError.{MatrixMarketError}
use Rattle.sparse_parser.specs.declared.error.MatrixMarketErrorKind.TheVariants as kind
use Rattle.nalgebra_sparse.specs.Errors.{kind_of}
use Rattle.nalgebra_sparse.specs.Meaning.{Means}
use Rattle.nalgebra_sparse.specs.ScalarTypes.{pattern_scalar}
use Rattle.mtx_commands.specs.Inputs.{input_fault, IsMisread}
use Rattle.mtx_commands.specs.declared.cli.Failure.{Failure}
use Rattle.mtx_commands.specs.declared.cli.Failure.TheVariants.{Refused}
use Rattle.mtx_commands.proofs.inputs.triplets_of.Goals as goal

-- the failure for the error of loading a text
IsMisread-loaded : {A B : Type 0} (text text' : List ℕ) → text' ≡ text
    → (loaded : Result A MatrixMarketError) (r : Result B Failure)
    → IfErr loaded (λ e. (kind_of e ≡ kind.OutOfMemory) ⊎ Means pattern_scalar text' (Err (kind_of e)))
    → IfErr r (λ f. IsErrAnd loaded (λ e. f ≡ Refused (input_fault 1 (kind_of e))))
    → IfErr r (IsMisread text)
IsMisread-loaded text text' same loaded (Ok x) why is = tt
IsMisread-loaded text text' same (Ok m) (Err f) why is = absurd is
IsMisread-loaded text text' same (Err e) (Err f) why is = record {
  fault = kind_of e;
  is = is;
  why = subst (λ (t : List ℕ). (kind_of e ≡ kind.OutOfMemory) ⊎ Means pattern_scalar t (Err (kind_of e)))
      same why;
}

pub returns-clause-misread : goal.returns-clause-misread
returns-clause-misread c =
    IsMisread-loaded (string_bytes c.args.text) c.as_str.result.now c.as_str.ensures.value
    c.load_coo_from_matrix_market_str.result c.listed.result
    c.load_coo_from_matrix_market_str.ensures.refused c.listed.ensures.misread
