-- The values of `SparseEntry`, `SparseEntryMut` and `Found`, and the ghost names of their references.
use Rattle.std.specs.Prelude.{Option, Some, None}
use Rattle.std.specs.Borrow.{GName}
use mathlib.Core.Option as maybe
use Rattle.sparse_pattern.specs.declared.entry.SparseEntry.{SparseEntry}
use Rattle.sparse_pattern.specs.declared.entry.SparseEntry.TheVariants as entry
use Rattle.sparse_pattern.specs.declared.entry.SparseEntryMut.{SparseEntryMut}
use Rattle.sparse_pattern.specs.declared.entry.SparseEntryMut.TheVariants as entry_mut
use Rattle.sparse_pattern.specs.declared.entry.Found.{Found}
use Rattle.sparse_pattern.specs.declared.entry.Found.TheVariants.{Value, Nothing}
use Rattle.sparse_pattern.specs.declared.entry.Missing.TheVariants.{OutOfBounds, NotStored}

module _ {T : Type 0} where
  -- the stored value, or zero
  abbrev pub entry_value : T → SparseEntry T → T
  entry_value zero_value (entry.NonZero x) = x.now
  entry_value zero_value entry.Zero = zero_value

  abbrev pub entry_mut_value : T → SparseEntryMut T → T
  entry_mut_value zero_value (entry_mut.NonZero x) = x.now
  entry_mut_value zero_value entry_mut.Zero = zero_value

  -- the result of a look-up as a `SparseEntryMut`; None if the pair is out of bounds
  abbrev pub entry_of_found : Found T → Option (SparseEntryMut T)
  entry_of_found (Value x) = Some (entry_mut.NonZero x)
  entry_of_found (Nothing NotStored) = Some entry_mut.Zero
  entry_of_found (Nothing OutOfBounds) = None

  -- the ghost name of the reference to the stored value, if there is one
  abbrev pub entry_name : Option (SparseEntryMut T) → maybe.Option GName
  entry_name (Some (entry_mut.NonZero x)) = maybe.some x.ghost_name
  entry_name (Some entry_mut.Zero) = maybe.none
  entry_name None = maybe.none

  abbrev pub indexed_name : SparseEntryMut T → maybe.Option GName
  indexed_name (entry_mut.NonZero x) = maybe.some x.ghost_name
  indexed_name entry_mut.Zero = maybe.none

  abbrev pub found_name : Found T → maybe.Option GName
  found_name (Value x) = maybe.some x.ghost_name
  found_name (Nothing why) = maybe.none
