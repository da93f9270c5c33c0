-- Division by a scalar.
use Rattle.std.specs.Prelude.{◌≡◌, ◌⊎◌}
use Rattle.sparse_algebra.specs.Algebra.{CommRing}
use Rattle.sparse_algebra.specs.Plain.{Plain, plain_scaled}
use Rattle.sparse_algebra.specs.declared.error.OperationErrorKind.{OperationErrorKind}
use Rattle.sparse_algebra.specs.declared.error.OperationErrorKind.TheVariants.{Singular}
use Rattle.sparse_algebra.specs.declared.error.OperationErrorKind.TheVariants.{OutOfMemory}
use Rattle.sparse_algebra.specs.Inverses.{HasInverse}

module _ (R : CommRing) {T : Type 0} (f : T → R.Carrier) (s : T) where
  -- q is a, scaled by the inverse of s
  abbrev pub IsQuotient : Plain R → Plain R → Type 0
  IsQuotient q a = (y : T) × (R.mul (f s) (f y) ≡ R.one) × (q ≡ plain_scaled R (f y) a)

  -- the error is Singular and s has no inverse, or OutOfMemory and s has one
  abbrev pub IsDivisionRefusal : OperationErrorKind → Type 0
  IsDivisionRefusal e = ((e ≡ Singular) × (HasInverse R f (f s) → ⊥))
      ⊎ ((e ≡ OutOfMemory) × HasInverse R f (f s))
