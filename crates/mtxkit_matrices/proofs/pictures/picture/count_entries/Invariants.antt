use Rattle.std.proofs.Common.{◌≡◌, ℕ, ◌+◌, ◌*◌, ◌<◌, length, slice_index}
use Rattle.std.specs.Prelude.{count_by}
use Rattle.mtxkit_matrices.specs.Pictures.{lies_in, entries_in}
use Rattle.mtxkit_matrices.proofs.EntriesLeft.{IsPartlyVisited}
use Rattle.mtxkit_matrices.proofs.pictures.picture.count_entries.Given as goal

abbrev pub invariant-loop-lane : goal.invariant-loop-lane
invariant-loop-lane l = record {
  half : IsPartlyVisited l.pattern l.lane-iterator (λ i j. Unit {0});
  cells : length l.counts ≡ length l.initial.counts;
  counted : (r c : ℕ) → r < l.height → c < l.width → slice_index l.counts (r * l.width + c)
      + count_by (lies_in l.pattern l.height l.width r c) l.lane-iterator
      ≡ entries_in l.pattern l.height l.width r c;
}
