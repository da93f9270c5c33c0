use Rattle.std.proofs.Common.{◌≡◌, ◌++◌, string_bytes}
use Rattle.std.specs.List.{flat_map}
use Rattle.sparse_algebra.specs.Plain.{below}
use Rattle.mtxkit_matrices.specs.SvgTexts.{squares_of_row}
use Rattle.mtxkit_matrices.proofs.pictures.svg.push_squares.Given as goal

abbrev pub invariant-loop-row : goal.invariant-loop-row
invariant-loop-row l = string_bytes l.text ≡ string_bytes l.initial.text
    ++ flat_map (squares_of_row l.picture l.most) (below l.row)
