use Rattle.std.proofs.Common.{◌≡◌, ◌++◌, string_bytes}
use Rattle.std.specs.List.{flat_map}
use Rattle.sparse_algebra.specs.Plain.{below}
use Rattle.mtxkit_matrices.specs.SvgTexts.{cell_square}
use Rattle.mtxkit_matrices.proofs.pictures.svg.push_row.Given as goal

abbrev pub invariant-loop-col : goal.invariant-loop-col
invariant-loop-col l = string_bytes l.text ≡ string_bytes l.initial.text
    ++ flat_map (cell_square l.picture l.most l.row) (below l.col)
