use Rattle.std.proofs.Common.{ℕ, ◌+◌, ◌<◌, ap, ◌∙◌, arith}
use Rattle.std.specs.Prelude.{◌==◌, option_map}
use Rattle.std.proofs.lemmas.List.Edits.{get_or-between}
use Rattle.std.proofs.lemmas.List.Quantifiers.{position-Some}
use Rattle.sparse_pattern.specs.Raw.{start_of, end_of, lane_of}
use Rattle.sparse_pattern.specs.declared.entry.SparseEntry.{SparseEntry}
use Rattle.sparse_pattern.specs.declared.entry.SparseEntry.TheVariants.{NonZero, Zero}
use Rattle.sparse_pattern.proofs.PatternLanes.{length-lane}
use Rattle.sparse_compressed.specs.Compressed.{Compressed, IsSound}
use Rattle.sparse_compressed.specs.Lanes.{lane_at, IsLaneEntryAt}
use Rattle.sparse_compressed.specs.StoredEntries.{IsEntryAt}
use Rattle.sparse_views.proofs.reading.index_entry.Goals as goal

-- the entry at j of lane i is the entry at (i, j) of the matrix
entry_in_lane : {T : Type 0} (m : Compressed T) → IsSound m → (i j : ℕ) → i < m.pattern.major_dim
    → (r : SparseEntry T) → IsLaneEntryAt (lane_at m i) j r → IsEntryAt m i j r
entry_in_lane m sound i j lane (NonZero x) found =
    let valid = sound.valid.lanes i lane in
    let within = (position-Some (λ k. k == j) (lane_of m.pattern i) found.0 0 found.1).0 in (
      start_of m.pattern i + found.0,
      ap (option_map (λ k. start_of m.pattern i + k)) found.1,
      found.2
          ∙ get_or-between m.values (start_of m.pattern i) (end_of m.pattern i) found.0 x.now
          (omega (arith, within, length-lane m.pattern i valid)),
    )
entry_in_lane m sound i j lane Zero missing =
    ap (option_map (λ k. start_of m.pattern i + k)) missing

pub returns-clause-entry : goal.returns-clause-entry
returns-clause-entry g c =
    entry_in_lane c.args.arrays.now c.lane.ensures.sound c.args.i c.args.j c.requires.major
    c.index_entry.result (rw (c.lane.ensures.lane) at c.index_entry.ensures)
