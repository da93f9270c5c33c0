-- The transpose that a call returns, as a plain matrix.
use Rattle.std.proofs.Common.{◌≡◌}
use Rattle.std.specs.Prelude.{Result, Ok, Err, IfOk}
use Rattle.sparse_algebra.specs.Algebra.{CommRing}
use Rattle.sparse_algebra.specs.Plain.{plain_transpose}
use Rattle.sparse_compressed.specs.Compressed.{Compressed, IsSound}
use Rattle.sparse_compressed.specs.PlainOfLanes.{plain_of_rows}
use Rattle.sparse_compressed.specs.TransposedMatrix.{IsTranspose}
use Rattle.sparse_compressed.proofs.MatrixTransposes.{plain_transposed}

pub rows_transposed : (R : CommRing) {T E : Type 0} (f : T → R.Carrier) (z : T) {m : Compressed T}
    → IsSound m → (r : Result (Compressed T) E) → IfOk r (IsTranspose m) → IfOk r IsSound
    → IfOk r (λ n. plain_of_rows R f n ≡ plain_transpose R (plain_of_rows R f m))
rows_transposed R f z {m} sound (Ok n) is sn = plain_transposed R f z m n sound sn is
rows_transposed R f z sound (Err e) is sn = tt
