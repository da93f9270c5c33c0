use Rattle.std.proofs.Common.{◌≡◌, ◌++◌, string_bytes}
use Rattle.std.specs.List.{flat_map}
use Rattle.sparse_algebra.specs.Plain.{below}
use Rattle.mtxkit_matrices.specs.Pictures.{is_black}
use Rattle.mtxkit_matrices.specs.PictureTexts.{pair_text, lower_cell}
use Rattle.mtxkit_matrices.proofs.pictures.text.push_blocks.Given as goal

abbrev pub invariant-loop-col : goal.invariant-loop-col
invariant-loop-col l = string_bytes l.text ≡ string_bytes l.initial.text
    ++ flat_map (λ col. pair_text (is_black l.picture l.row col) (lower_cell l.picture l.row col))
    (below l.col)
