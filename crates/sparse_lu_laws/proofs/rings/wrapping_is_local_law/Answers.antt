use Rattle.std.specs.Int.{w32, w64, w128}
use Rattle.sparse_algebra.specs.Whole.{number_of}
use Rattle.sparse_algebra.specs.WrappingValues.{w32_value, w64_value, w128_value}
use Rattle.sparse_algebra.proofs.WholeNumbers.{number_fits}
use Rattle.sparse_lu_laws.proofs.LocalRings.{wrapping-local, class_of-number_of}
use Rattle.sparse_lu_laws.proofs.rings.wrapping_is_local_law.Goals as goal

pub returns-clause-w32 : goal.returns-clause-w32
returns-clause-w32 c = wrapping-local w32 w32_value
    (λ a. (
      record { number = number_of w32 a; in_range = number_fits w32 a },
      class_of-number_of w32 a,
    ))

pub returns-clause-w64 : goal.returns-clause-w64
returns-clause-w64 c = wrapping-local w64 w64_value
    (λ a. (
      record { number = number_of w64 a; in_range = number_fits w64 a },
      class_of-number_of w64 a,
    ))

pub returns-clause-w128 : goal.returns-clause-w128
returns-clause-w128 c = wrapping-local w128 w128_value
    (λ a. (
      record { number = number_of w128 a; in_range = number_fits w128 a },
      class_of-number_of w128 a,
    ))
