-- Why a system is not solved in an order.
use Rattle.std.specs.Prelude.{ℕ, List}
use Rattle.sparse_algebra.specs.Algebra.{CommRing}
use Rattle.sparse_algebra.specs.Plain.{Plain}
use Rattle.mtxkit_matrices.specs.Pivots.{IsPivotIn}
use Rattle.mtxkit_matrices.specs.declared.systems.SystemError.{SystemError}
use Rattle.mtxkit_matrices.specs.declared.systems.SystemError.TheVariants.{NoFactors, OutOfMemory}

-- an allocation failed, or the pivot of the error has no inverse in the order p
abbrev pub IsUnsolvableIn : (R : CommRing) {T : Type 0} → (T → R.Carrier) → List ℕ → Plain R
    → SystemError → Type 0
IsUnsolvableIn R f p a (NoFactors pivot) = IsPivotIn R f a p pivot
IsUnsolvableIn R f p a OutOfMemory = Unit {0}
IsUnsolvableIn R f p a error = ⊥
