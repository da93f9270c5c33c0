use Rattle.std.proofs.Common.{◌≡◌, ◌++◌, ◌+◌, ◌-◌, ◌*◌, string_bytes, slice_index}
use Rattle.std.specs.List.{flat_map}
use Rattle.sparse_algebra.specs.Plain.{below}
use Rattle.mtxkit_matrices.specs.FactLines.{bar_line}
use Rattle.mtxkit_matrices.proofs.facts.lines.push_bars.Given as goal

abbrev pub invariant-loop-line : goal.invariant-loop-line
invariant-loop-line l = string_bytes l.lines ≡ string_bytes l.initial.lines
    ++ flat_map (λ b. bar_line (b * l.rows.width) ((b + 1) * l.rows.width - 1)
    (slice_index l.rows.counts.items b) l.nrows) (below l.line)
