use Rattle.sparse_compressed.proofs.CsMatrix.try_from_pattern_and_values.Goals as goal

pub from_pattern_and_values-requires : goal.from_pattern_and_values-requires
from_pattern_and_values-requires g c = search
