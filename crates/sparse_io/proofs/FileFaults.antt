-- The result of a call that opens or reads a file and then works on it, by the result of the first
-- step.
use Rattle.std.specs.Prelude.{◌⊎◌, Result, Ok, Err, IfOk, IfErr, IsErrAnd}
use Rattle.std.proofs.Common.{inl, inr}
use Rattle.std.specs.declared.io.ErrorKind.{ErrorKind}
use Rattle.std.specs.declared.io.ErrorKind.TheVariants as io
use Rattle.sparse_io.specs.Files.{file_fault, IsFileFault}

-- the error of a failure in opening, creating or reading a file is one of those of files
pub file_fault-is : (kind : ErrorKind) → IsFileFault (file_fault kind)
file_fault-is io.OutOfMemory = tt
file_fault-is kind = tt

module _ {A B E F : Type 0} (P : A → B → Type 0) (Q : A → F → Type 0) (R : E → F → Type 0) where
  -- the last result is `Ok` only if the first one is
  pub Ok-from-Ok : (first : Result A E) (last : Result B F) → IfOk first (λ a. IfOk last (P a))
      → IfErr first (λ e. IsErrAnd last (R e)) → IfOk last (λ b. (a : A) × P a b)
  Ok-from-Ok (Ok a) (Ok b) of_value of_error = (a, of_value)
  Ok-from-Ok (Ok a) (Err f) of_value of_error = tt
  Ok-from-Ok (Err e) (Ok b) of_value of_error = absurd of_error
  Ok-from-Ok (Err e) (Err f) of_value of_error = tt

  -- the last result is an error because of the first one's error or of its value
  pub Err-from-either : (first : Result A E) (last : Result B F)
      → IfOk first (λ a. IfErr last (Q a)) → IfErr first (λ e. IsErrAnd last (R e))
      → IfErr last (λ f. ((e : E) × R e f) ⊎ ((a : A) × Q a f))
  Err-from-either (Ok a) (Ok b) of_value of_error = tt
  Err-from-either (Ok a) (Err f) of_value of_error = inr (a, of_value)
  Err-from-either (Err e) (Ok b) of_value of_error = tt
  Err-from-either (Err e) (Err f) of_value of_error = inl (e, of_error)
