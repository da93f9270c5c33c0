-- Values changed in place, one by one.
use Rattle.std.specs.Prelude.{◌≡◌, ℕ, ◌<◌, List, length, slice_index_or}

-- each new value represents `change` of what the old one represented
pub record AreChanged {C T : Type 0} (value : T → C) (change : C → C) (z : T) (old new : List T) :
    Type 0 where
  pub count : length new ≡ length old
  pub each : (k : ℕ) → k < length old
      → value (slice_index_or new k z) ≡ change (value (slice_index_or old k z))
