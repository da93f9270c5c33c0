use Rattle.sparse_compressed.proofs.Kept.{filter_from_kept}
use Rattle.sparse_compressed.proofs.KeptLanes.{kept_valid, kept_triplets}
use Rattle.sparse_compressed.proofs.CsMatrix.filter.Goals as goal

pub from_offset_and_indices_unchecked-kept-requires :
    goal.from_offset_and_indices_unchecked-kept-requires
from_offset_and_indices_unchecked-kept-requires g c =
    let own = c.pattern-pattern.ensures in
    rw (c.major_dim.ensures, c.minor_dim.ensures, own.pattern)
    (kept_valid _ _ own.sound _ _ _ c.in_ok-offsets.ensures)

pub from_pattern_and_values-requires : goal.from_pattern_and_values-requires
from_pattern_and_values-requires g c =
    rw c.from_offset_and_indices_unchecked-kept.ensures c.in_ok-offsets.ensures.value_count

pub returns-clause-kept : goal.returns-clause-kept
returns-clause-kept g c =
    let own = c.pattern-pattern.ensures in
    rw (
      c.from_pattern_and_values.ensures.is,
      c.from_offset_and_indices_unchecked-kept.ensures,
      c.major_dim.ensures,
      own.pattern,
    )
    (kept_triplets _ _ own.sound _ _ _ c.in_ok-offsets.ensures)

pub returns-clause-tested : goal.returns-clause-tested
returns-clause-tested g c = λ test says. filter_from_kept _ test says _ _ (returns-clause-kept g c)
