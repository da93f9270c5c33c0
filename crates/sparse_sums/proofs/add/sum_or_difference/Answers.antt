use Rattle.sparse_sums.proofs.add.sum_or_difference.Goals as goal

pub returns : goal.returns
returns g c = rw (
  c.from_pattern_and_values.ensures.is,
  c.from_offset_and_indices_unchecked-pattern.ensures,
  c.major_dim.ensures,
  c.minor_dim.ensures,
  c.pattern-first.ensures.pattern,
) c.in_ok-append_lanes.ensures.sum
