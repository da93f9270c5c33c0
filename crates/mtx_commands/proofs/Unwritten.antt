-- The failure of `write_pattern` agrees with the failed writes.
use Rattle.std.specs.Prelude.{ℕ, Option}
use Rattle.std.specs.declared.io.ErrorKind.{ErrorKind}
use Rattle.sparse_parser.specs.declared.error.MatrixMarketErrorKind.{MatrixMarketErrorKind}
use Rattle.sparse_parser.specs.declared.error.MatrixMarketErrorKind.TheVariants.{IOError}
use Rattle.sparse_parser.specs.declared.error.MatrixMarketErrorKind.TheVariants.{OutOfMemory}
use Rattle.nalgebra_sparse.specs.Written.{IsRefusedWrite}
use Rattle.mtx_commands.specs.declared.cli.Failure.TheVariants.{Refused}
use Rattle.mtx_commands.specs.Writes.{write_fault, IsUnwritten}

-- `write_fault` of an error of writing is a failure with the same cause
pub unwritten_write_fault : (kind : MatrixMarketErrorKind) (before after : ℕ) (last : Option ErrorKind)
    → IsRefusedWrite kind before after last
    → IsUnwritten before after last (Refused (write_fault kind))
unwritten_write_fault OutOfMemory before after last is = is
unwritten_write_fault (IOError kind) before after last is = is
unwritten_write_fault kind before after last is = absurd is
