use Rattle.sparse_compressed.proofs.LaneSearch.{find_offset-is_offset}
use Rattle.sparse_compressed.proofs.laws.place_law.Goals as goal

pub returns : goal.returns
returns c = λ d valid i j p. find_offset-is_offset d valid i j p
