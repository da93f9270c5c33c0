-- The state of a sink over a writer, as contracts see it.
use Rattle.std.specs.Prelude.{ℕ, Bool, Option}
use Rattle.std.specs.declared.io.ErrorKind.{ErrorKind}

-- the writer, the number of failed writes, the kind of the last of these, and whether the last call
-- that reached the writer was a flush that succeeded
pub record OutState (W : Type 0) : Type 0 where
  pub inner : W
  pub failures : ℕ
  pub last : Option ErrorKind
  pub flushed : Bool

abbrev pub out_state : {W : Type 0} → W → ℕ → Option ErrorKind → Bool → OutState W
out_state inner failures last flushed =
    record { inner = inner; failures = failures; last = last; flushed = flushed }
