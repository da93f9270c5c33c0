use Rattle.sparse_sums.proofs.add.append_lane.Goals as goal

pub returns : goal.returns
returns g c = record {
  gained = rw (
    c.minor_indices.ensures.indices,
    c.values.ensures.values,
    c.minor_indices-2.ensures.indices,
    c.values-2.ensures.values,
    c.lane-first.ensures,
    c.lane-second.ensures,
  ) at c.append_sum.ensures.gained;
}
