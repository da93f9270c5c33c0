use Rattle.std.proofs.Common.{◌≡◌, ◌*◌, string_bytes}
use Rattle.std.specs.List.{flat_map}
use Rattle.sparse_algebra.specs.Plain.{below}
use Rattle.mtxkit_matrices.specs.PictureTexts.{block_row_text}
use Rattle.mtxkit_matrices.proofs.pictures.text.block_text.Given as goal

abbrev pub invariant-loop-line : goal.invariant-loop-line
invariant-loop-line l = string_bytes l.text
    ≡ flat_map (λ line. block_row_text l.picture (line * 2)) (below l.line)
