-- The result of reading: a value, or the kind of the first error.
use Rattle.std.specs.Prelude.{◌≡◌, Result, Ok, Err, IfErr}
use Rattle.sparse_parser.specs.declared.error.MatrixMarketErrorKind.{MatrixMarketErrorKind}
use Rattle.sparse_parser.specs.declared.error.MatrixMarketErrorKind.TheVariants.{TypeMismatch}
use Rattle.sparse_parser.specs.declared.error.MatrixMarketError.{MatrixMarketError}
use Rattle.sparse_parser.specs.Errors.{kind_of}

-- a value, or the kind of the first error
abbrev pub Read : Type 0 → Type 0
Read A = Result A MatrixMarketErrorKind

infixl 10 ◌>>=◌
abbrev pub ◌>>=◌ : {A B : Type 0} → Read A → (A → Read B) → Read B
(Ok x) >>= f = f x
(Err e) >>= f = Err e

-- the result of a function, with its value as contracts see it or the kind of its error
abbrev pub read_as : {T V : Type 0} → (T → V) → Result T MatrixMarketError → Read V
read_as value (Ok x) = Ok (value x)
read_as value (Err e) = Err (kind_of e)

-- the only error is `TypeMismatch`: the type does not have the value
abbrev pub OnlyMismatch : {A : Type 0} → Read A → Type 0
OnlyMismatch r = IfErr r (λ e. e ≡ TypeMismatch)
