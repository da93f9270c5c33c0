-- The memory that a handle owns.
use Rattle.std.specs.Prelude.{Option, None, Some}
use base.Fml.{Fml, feq}
use base.Stored.{Coded}
use denote.RattleType.{RattleType}
use denote.RawPtr.{Ptr, null_ptr}
use Rattle.std.specs.Coded.{coded_option}
use Rattle.std_alloc.specs.Box.Ownership.{box_owns}
use Rattle.std_alloc.specs.declared.boxed.Box.{Box}
use Rattle.std_heap.specs.contracts.GlobalAllocator.TheImpl.{ghosts}
use Rattle.std_heap.specs.declared.Global.{Global}

-- the global allocator; its type has one value
abbrev pub heap : Global
heap = record { memory = record { seal = tt } }

-- p points to a heap block with the value x, and its owner may free the block
abbrev pub in_block : (R : RattleType) → Ptr → R.Denot → Fml
in_block = box_owns (ghosts.dealloc_token heap)

-- p is null and there is no value, or p points to an owned heap block with the value
abbrev pub owns_at : (R : RattleType) → Ptr → Option R.Denot → Fml
owns_at R p None = feq Ptr p null_ptr
owns_at R p (Some x) = in_block R p x

abbrev pub held_code : (R : RattleType) → Coded (Option R.Denot)
held_code R = coded_option R.coded

-- the value in the box, if there is one
abbrev pub value_of : {X : Type 0} → Option (Box X Global) → Option X
value_of None = None
value_of (Some boxed) = Some boxed.value
