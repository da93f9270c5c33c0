-- `Send` for `MatrixHandle`: what it shares may be sent to another thread, and any thread may free a heap block.
use denote.Builtin.{RawPtr}
use denote.Param.Send.{owning_send, sendable, struct_send, IsSend}
use denote.Struct.Owning.{fields, shape, to}
use denote.Struct.Struct.{exits_of}
use Rattle.std_alloc.proofs.SendSync.{quiet}
use Rattle.sparse_algebra.proofs.scalar.wrapping.W64.TheSendSync.{the_send as w64_send, the_sync as w64_sync}
use Rattle.sparse_algebra.specs.contracts.scalar.wrapping.W64.{the_row as w64_row}
use Rattle.sparse_csr_csc.proofs.csr.CsrMatrix.TheSendSync.{the_send as csr_send, the_sync as csr_sync}
use Rattle.sparse_csr_csc.specs.contracts.csr.CsrMatrix.{the_row as csr_row}
use Rattle.c_handles.proofs.Sending.{keyless}
use Rattle.c_handles.proofs.shared.Shared.TheSendSync.{the_send as shared_send}
use Rattle.c_handles.specs.Rows.{matrix_row}
use Rattle.c_handles.specs.contracts.handle.MatrixHandle.{the_row, the_type}

pub send : IsSend the_row
send = let ps : IsSend RawPtr = search sendable in
    owning_send the_type (ps, tt) (λ d. keyless matrix_row (shared_send (csr_row w64_row) (csr_send w64_row w64_send)
    (csr_sync w64_row w64_sync)) d.at d.value)
    (λ k. quiet (to the_type) (exits_of k (fields the_type)) ((struct_send (shape the_type) (
      ps,
      tt,
    )).leaving k))
