-- `Send` for `FactorHandle`: what it shares may be sent to another thread, and any thread may free a heap block.
use denote.Builtin.{RawPtr}
use denote.Param.Send.{owning_send, sendable, struct_send, IsSend}
use denote.Struct.Owning.{fields, shape, to}
use denote.Struct.Struct.{exits_of}
use Rattle.std_alloc.proofs.SendSync.{quiet}
use Rattle.c_handles.proofs.held_factors.HeldFactors.TheSendSync.{the_send as factors_send, the_sync as factors_sync}
use Rattle.c_handles.specs.contracts.held_factors.HeldFactors.{the_row as held_factors_row}
use Rattle.c_handles.proofs.Sending.{keyless}
use Rattle.c_handles.proofs.shared.Shared.TheSendSync.{the_send as shared_send}
use Rattle.c_handles.specs.Rows.{factors_row}
use Rattle.c_handles.specs.contracts.handle.FactorHandle.{the_row, the_type}

pub send : IsSend the_row
send = let ps : IsSend RawPtr = search sendable in
    owning_send the_type (ps, tt) (λ d. keyless factors_row
    (shared_send held_factors_row factors_send factors_sync) d.at d.value)
    (λ k. quiet (to the_type) (exits_of k (fields the_type)) ((struct_send (shape the_type) (
      ps,
      tt,
    )).leaving k))
