use Rattle.std.proofs.lemmas.Grind.{elements}
use Rattle.std.proofs.Common.{◌+◌, sym, ap, ◌∙◌, arith}
use Rattle.std.specs.Prelude.{option_map}
use Rattle.sparse_pattern.specs.Raw.{start_of}
use Rattle.sparse_pattern.proofs.PatternLanes.{length-lane}
use Rattle.sparse_compressed.proofs.lane.offset_of.Goals as goal

pub returns-in-Some : goal.returns-in-Some
returns-in-Some c =
    let d = c.args.pattern.now in
    let lane = c.args.lane in
    let start = c.lane_bounds-start.ensures.start in
    let valid = c.lane_bounds-start.ensures.lane in
    let found = rw c.of_lane.ensures at (sym c.offset_of.ensures.offset ∙ c.in-Some.is) in
    let within = rw (c.of_lane.ensures, length-lane d lane valid) at c.in-Some.ensures.within in
    record {
      offset = rw start (sym (ap (option_map (λ k. start_of d lane + k)) found));
      within = rw start (omega (arith, within, valid.inside));
    }

-- ---- written by tools/answer-goals

pub overflow_add-result : goal.overflow_add-result
overflow_add-result c = grind (arith, elements)
