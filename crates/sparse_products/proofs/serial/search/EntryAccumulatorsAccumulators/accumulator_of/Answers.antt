use Rattle.std.proofs.Common.{sym, ◌∙◌}
use Rattle.sparse_compressed.proofs.LaneSearch.{find_offset-is_offset}
use Rattle.sparse_sums.proofs.TargetLookups.{missed}
use Rattle.sparse_products.proofs.serial.search.EntryAccumulatorsAccumulators.accumulator_of.Goals as goal

pub returns-in-Some-clause-found : goal.returns-in-Some-clause-found
returns-in-Some-clause-found c =
    let s = c.args.self.now in
    let valid = c.requires.1.0 in (
      valid,
      (find_offset-is_offset s.pattern.now valid s.lane c.args.column c.in-Some.at).0
          (sym c.offset_of.ensures.offset ∙ c.in-Some.is),
    )

pub returns-in-None-clause-found : goal.returns-in-None-clause-found
returns-in-None-clause-found c =
    let s = c.args.self.now in
    let at = c.requires.1.1 in
    absurd (missed s.pattern.now c.requires.1.0 s.lane c.args.column
    (sym c.offset_of.ensures.offset ∙ c.in-None.is)
    (record { at = c.requires.0; in_lane = at.0; index = at.1 }))
