-- The failures for errors of solving and testing, where the matrices have these dimensions.
use Rattle.std.specs.Prelude.{ℕ, Option}
use Rattle.mtxkit_matrices.specs.declared.coordinates.Dimensions.{Dimensions}
use Rattle.mtxkit_matrices.specs.declared.solutions.CheckError.{CheckError}
use Rattle.mtxkit_matrices.specs.declared.solutions.CheckError.TheVariants as check
use Rattle.mtxkit_matrices.specs.declared.systems.SystemError.{SystemError}
use Rattle.mtxkit_matrices.specs.declared.systems.SystemError.TheVariants as system
use Rattle.mtxkit_texts.specs.declared.failure.Failure.{Failure}
use Rattle.mtxkit_texts.specs.declared.failure.Failure.TheVariants as failure

abbrev pub system_fault : Option ℕ → Dimensions → Dimensions → SystemError → Failure
system_fault modulus a b system.Shapes = failure.Shapes a b
system_fault modulus a b (system.NotSymmetric at) = failure.NotSymmetric at
system_fault modulus a b (system.NoFactors pivot) = failure.NoFactors modulus pivot
system_fault modulus a b system.OutOfMemory = failure.OutOfMemory

abbrev pub check_fault : Dimensions → Dimensions → Dimensions → CheckError → Failure
check_fault a x b check.Shapes = failure.ProductShapes a x b
check_fault a x b (check.NotSolution at) = failure.NotSolution at
check_fault a x b check.OutOfMemory = failure.OutOfMemory
