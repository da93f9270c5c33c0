-- The effect of a write on a sink.
use Rattle.std.specs.Prelude.{◌≡◌, ℕ, ◌+◌, List, [], ◌∷◌, ◌++◌, Option, Some, None, Result, Ok, Err}
use Rattle.std.specs.Prelude.{zero, suc}
use Rattle.std.specs.declared.io.ErrorKind.{ErrorKind}
use Rattle.std.specs.declared.io.ErrorKind.TheVariants.{WriteZero}
use Rattle.std.specs.Io.KnownBytes.{Appends}

-- the kind of the failure, if a write of these bytes failed
abbrev pub failure_of : Result ℕ ErrorKind → List ℕ → Option ErrorKind
failure_of (Err kind) bytes = Some kind
failure_of (Ok zero) [] = None
failure_of (Ok zero) (byte ∷ bytes) = Some WriteZero
failure_of (Ok (suc count)) bytes = None

-- a failure is counted and its kind is kept; without a failure both stay the same
abbrev pub CountsFailure : Option ErrorKind → ℕ → ℕ → Option ErrorKind → Option ErrorKind → Type 0
CountsFailure None before after last last' = (after ≡ before) × (last' ≡ last)
CountsFailure (Some kind) before after last last' = (after ≡ before + 1) × (last' ≡ Some kind)

-- a prefix of the bytes was appended
pub record AppendsSome (old new : Option (List ℕ)) (bytes : List ℕ) : Type 0 where
  pub done : List ℕ
  pub rest : List ℕ
  pub parts : bytes ≡ done ++ rest
  pub appended : Appends old new done
