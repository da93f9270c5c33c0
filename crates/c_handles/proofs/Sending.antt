-- What a handle owns may be sent to another thread, if its value may: any thread may free a heap block.
use mir.Raw.{raw}
use base.Shift.{Keyless}
use denote.Memory.{lone}
use denote.RattleType.{RattleType}
use denote.RawPtr.{Ptr}
use denote.Param.Send.{IsSend}
use Rattle.std.specs.Prelude.{Option, None, Some}
use Rattle.std_alloc.proofs.SendSync.{lies}
use Rattle.std_heap.proofs.GlobalAllocator.TheSendSync.{the_frees}
use Rattle.c_handles.specs.Owned.{heap, owns_at}

pub keyless : (R : RattleType) → IsSend R → (p : Ptr) (x : Option R.Denot) → Keyless (owns_at R p x)
keyless R send p None = tt
keyless R send p (Some x) = (lies R send p x, the_frees.frees heap (raw (lone R.mir)) p)
