use Rattle.std.proofs.Common.{◌≡◌, ◌+◌, ◌≤◌}
use Rattle.sparse_pattern.specs.Raw.{start_of}
use Rattle.c_arrays.specs.Rests.{KeepsBehind}
use Rattle.c_arrays.specs.InnerFilling.{IsFilled}
use Rattle.c_arrays.proofs.ScaledSums.{HasRows}
use Rattle.c_arrays.proofs.sums.rows.write_rows.Given as goal

abbrev pub invariant-loop-i : goal.invariant-loop-i
invariant-loop-i g l =
    let R = g.T.Ring.ring in
    let f = g.T.Ring.value in
    let entries = l.entries in
    record {
      same_indices : entries.indices.ghost_name ≡ l.initial.entries.indices.ghost_name;
      same_values : entries.values.ghost_name ≡ l.initial.entries.values.ghost_name;
      most : entries.end ≤ start_of l.a.matrix.pattern l.i + start_of l.b.matrix.pattern l.i;
      built : HasRows R (f l.a.scale) (f l.b.scale) l.a.matrix l.b.matrix l.i entries.end l.offsets
          entries.indices.now entries.values.now;
      filled : IsFilled g.T.Number.is_shown 0 entries.end l.fn.indices entries.indices.now
          l.fn.values entries.values.now;
      offsets_rest : KeepsBehind (l.i + 1) l.initial.offsets l.offsets;
    }
