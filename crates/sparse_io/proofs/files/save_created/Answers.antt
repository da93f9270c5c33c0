use Rattle.std.specs.IoError.{error_kind}
use Rattle.sparse_io.proofs.FileFaults.{file_fault-is}
use Rattle.sparse_io.proofs.files.save_created.Goals as goal

pub returns-in-Err-clause-refused : goal.returns-in-Err-clause-refused
returns-in-Err-clause-refused g c =
    rw c.file_fault.ensures (file_fault-is (error_kind c.in-Err.fault))
