use Rattle.std.proofs.Common.{◌∙◌}
use Rattle.sparse_compressed.proofs.LaneSearch.{search_is_offset}
use Rattle.sparse_compressed.proofs.lane.LaneIndices.offset_of.Goals as goal

pub returns-clause-offset : goal.returns-clause-offset
returns-clause-offset c =
    c.ok.ensures.value ∙ rw (← c.self.view_is)
    (search_is_offset _ _ _ c.self.invariant c.binary_search.ensures.position)
