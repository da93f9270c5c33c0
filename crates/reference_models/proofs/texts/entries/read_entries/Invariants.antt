use Rattle.std.proofs.Common.{◌≡◌, drop, map}
use Rattle.sparse_parser.specs.Meaning.{triplets_of_lines, value_triplet}
use Rattle.reference_models.specs.InnerTexts.{lines_in}
use Rattle.reference_models.proofs.TextEntries.{prefixed}
use Rattle.reference_models.proofs.texts.entries.read_entries.Given as goal

abbrev pub invariant-loop-at : goal.invariant-loop-at
invariant-loop-at g l =
    let S = g.T.MatrixMarketScalar.scalar in
    prefixed (map (value_triplet g.T.MatrixMarketScalar.value) l.list.items)
    (triplets_of_lines S l.header (drop l.at l.places) (drop l.at (lines_in l.lines)))
    ≡ triplets_of_lines S l.header l.places (lines_in l.lines)
