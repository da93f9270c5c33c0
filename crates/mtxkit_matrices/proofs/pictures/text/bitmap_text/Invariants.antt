use Rattle.std.proofs.Common.{◌≡◌, ◌++◌, string_bytes}
use Rattle.std.specs.List.{flat_map}
use Rattle.sparse_algebra.specs.Plain.{below}
use Rattle.mtxkit_matrices.specs.PictureTexts.{bitmap_head, row_text}
use Rattle.mtxkit_matrices.proofs.pictures.text.bitmap_text.Given as goal

abbrev pub invariant-loop-row : goal.invariant-loop-row
invariant-loop-row l = string_bytes l.text
    ≡ bitmap_head l.picture ++ flat_map (row_text l.picture) (below l.row)
